-- The answer is made of a refusal number and a place, and can be read back.
use Rattle.aec3_common.specs.Cases.{ReadBack}
use Rattle.aec3_common.specs.Answers.{answer_case}
use Rattle.spectrum_buffer.specs.Ring.{place_number, place_value}

-- Claim: the cases of an answer with a place are read back.
unfoldable pub PlaceReadBack : Type 0
PlaceReadBack = ReadBack answer_case place_number place_value (λ place. place)
