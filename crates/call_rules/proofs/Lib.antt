-- Laws of the definitions.
pub mod LayoutLaws
pub mod NumbersFrom
pub mod PatternLaws
pub mod PieceLaws
pub mod RankLaws
pub mod WellFormedLaws
