pub mod FewKeys
pub mod NearLemmas
pub mod FaultLemmas
pub mod KeyLines
pub mod NoteLemmas
