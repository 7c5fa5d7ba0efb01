pub mod ScriptWordLemmas
pub mod ScriptLemmas
pub mod VocabularyLemmas
pub mod MeaningLemmas
pub mod FaultyMeaning
pub mod KeepLemmas
