-- Where the parts of a case stand.
pub mod CaseParts
