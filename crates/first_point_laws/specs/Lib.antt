-- Which steps stand for the points of an access.
pub mod PointLaws
