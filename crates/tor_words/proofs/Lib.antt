mod AddedWords
mod BoundArguments
mod CommandTables
mod SubCommands
