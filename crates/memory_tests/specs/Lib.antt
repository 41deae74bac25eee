pub mod Products
pub mod Alone
