pub mod PromiseLaws
pub mod RefusalLaws
pub mod VerdictLaws
