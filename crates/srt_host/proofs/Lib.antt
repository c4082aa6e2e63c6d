pub mod HeldTexts
pub mod Warned
