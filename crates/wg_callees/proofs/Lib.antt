pub mod NameTables
