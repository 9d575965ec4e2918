pub mod InPrograms
