-- The turn as plain data: what a seat knows, the rule of the table, what each step tells, and what contracts say.
pub mod Lists
pub mod Views
pub mod Rules
pub mod Steps
pub mod Seats
