pub mod EarlyAnswers
pub mod BaseQuestions
pub mod AncestryQuestions
pub mod ReachQuestions
pub mod DescribeQuestions
