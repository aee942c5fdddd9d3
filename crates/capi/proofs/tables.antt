-- Tables of answers with the records in which they are returned: they pin the definitions, and no contract cites them.
pub mod AnswerRows
