pub mod LiteralWords
