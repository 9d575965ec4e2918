mod TypingLemmas
