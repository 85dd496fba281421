pub mod RaisedWords
