-- What a call answers, by the number under which it is turned away.
use Rattle.std.specs.Prelude.{◌≡◌, ℕ, cond, ◌==◌, Result, Ok, Err}
use Rattle.aec3_common.specs.declared.refusal.Answer.{Answer}
use Rattle.aec3_common.specs.declared.refusal.Refusal.{Refusal}
use Rattle.aec3_common.specs.declared.refusal.Refusal.TheVariants.{BadLimits, BadChannelCount, BadSections, BadRing, BadLength, BadValue, BadLog2Input, BadOffset, BadPlace, BadFrame, UnknownKind, BadRecordLength, BadFlagOrBand, BadState, OtherChannelCount, NoSettings, SecondSettings}
use Rattle.aec3_common.specs.Refusal.{accepted, bad_limits, bad_channel_count, bad_sections, bad_ring, bad_length, bad_value, bad_log2_input, bad_offset, bad_place, bad_frame, unknown_kind, bad_record_length, bad_flag_or_band, bad_state, other_channel_count, no_settings, second_settings}

-- the number of a refusal
abbrev pub number : Refusal → ℕ
number BadLimits = bad_limits
number BadChannelCount = bad_channel_count
number BadSections = bad_sections
number BadRing = bad_ring
number BadLength = bad_length
number BadValue = bad_value
number BadLog2Input = bad_log2_input
number BadOffset = bad_offset
number BadPlace = bad_place
number BadFrame = bad_frame
number UnknownKind = unknown_kind
number BadRecordLength = bad_record_length
number BadFlagOrBand = bad_flag_or_band
number BadState = bad_state
number OtherChannelCount = other_channel_count
number NoSettings = no_settings
number SecondSettings = second_settings

-- the number of an answer: that of its refusal, or 0 where it is accepted
abbrev pub number_of : {A : Type 0} → Result A Refusal → ℕ
number_of (Ok value) = accepted
number_of (Err refusal) = number refusal

-- an answer with its refusal as a number
abbrev pub numbered : {A : Type 0} → Result A Refusal → Result A ℕ
numbered (Ok value) = Ok value
numbered (Err refusal) = Err (number refusal)

-- the case of an answer: number 0 has the value, any other number is a refusal
abbrev pub answer_case : {A : Type 0} → ℕ → A → Result A ℕ
answer_case number value = cond (number == accepted) (Ok value) (Err number)

-- and back: the number and the value of each case
abbrev pub answer_number : {A : Type 0} → Result A ℕ → ℕ
answer_number (Ok value) = accepted
answer_number (Err number) = number

-- the next state and 0, or the state as it was and the number under which the call is turned away
pub record Answered (S : Type 0) : Type 0 where
  pub state : S
  pub refused : ℕ

-- what a call tells: the state that it gives back, and the number
abbrev pub told : {S : Type 0} → Answer S → Answered S
told answer = record { state = answer.state; refused = number_of answer.outcome }

-- Claim: no two refusals have one number, and none has 0.
pub record NumbersTellRefusals : Type 0 where
  pub apart : (a b : Refusal) → number a ≡ number b → a ≡ b
  pub none_accepted : (a : Refusal) → ¬ (number a ≡ accepted)
