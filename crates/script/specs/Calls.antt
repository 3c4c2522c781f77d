-- What a record asks of an estimator, and when an estimator that stands stays as it is.
use Rattle.std.specs.Prelude.{ℕ, ◌≡◌, ◌%◌, ◌≤◌, Result, MatchResult, OnErr}
use Rattle.script.specs.declared.call.Call.{Call}
use Rattle.script.specs.declared.call.Call.TheVariants.{Start, Update, Reset, Repeat}
use Rattle.script.specs.declared.fault.Malformed.{Malformed}

-- the last digit of the kinds that ask for a call
abbrev pub digit_of : Call → ℕ
digit_of Start = 0
digit_of Update = 1
digit_of Reset = 2
digit_of Repeat = 3

-- the result is the call that the last digit of a kind asks for, or an error where no call has that digit
abbrev pub CallOf : ℕ → Result Call Malformed → Type 0
CallOf kind r = MatchResult r (λ call. digit_of call ≡ kind % 16) (λ _. 4 ≤ kind % 16)

-- what turned out to be malformed, or for which no memory was left, changes nothing
abbrev pub UnchangedOnErr : {T E S : Type 0} → Result T E → S → S → Type 0
UnchangedOnErr r old new = OnErr r (new ≡ old)
