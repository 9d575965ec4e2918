pub mod AlikeTables
