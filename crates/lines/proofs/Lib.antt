pub mod DigitLaws
pub mod DecodeLaws
pub mod LetterLaws
