mod TellLaws
mod ClearLaws
