mod DigestFacts
mod FrameFacts
