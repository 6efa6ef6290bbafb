pub mod KeyGrammar
pub mod KeyLaws
pub mod UnderLaws
