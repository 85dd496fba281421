-- The bytes of a reply.
mod ReplyLaws
