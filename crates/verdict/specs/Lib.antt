-- The paper's words for a verdict: the codes, the three words, the count, the findings listed.
pub mod Codes
pub mod Verdict
pub mod Findings
pub mod Counted
pub mod Bits
