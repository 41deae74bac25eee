-- What contracts say of marks.
pub mod Places
