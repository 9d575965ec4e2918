pub mod Items
pub mod Lines
pub mod Certificates
pub mod Reading
