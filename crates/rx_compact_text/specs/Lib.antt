pub mod CompactedText
