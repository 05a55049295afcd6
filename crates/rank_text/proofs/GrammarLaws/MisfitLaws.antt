-- Where the reading stops, no form goes on.
--
-- A reader of the front (`expression_at`, `pattern_at`) that stops could have gone
-- on behind the tokens before (an operand and what closes the brackets complete
-- them), and stops there whatever follows. So it is with each reader made of two,
-- one behind the other (`then_good`), and so with the forms (`form_good`).
pub mod Stopping
pub mod Expressions
pub mod InTurn
pub mod Alike
pub mod Signs
pub mod Arguments
pub mod Envelopes
pub mod Messages
pub mod Collectives
pub mod Declarations
pub mod Misfits
