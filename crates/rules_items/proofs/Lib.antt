pub mod ItemLaws
pub mod TallyLaws
pub mod PairLaws
pub mod SpanLaws
