-- The code of an activity. Assumes nothing.
use mathlib.Core.Path.{◌≡◌, refl, ap}
use mathlib.Core.Bool.{Bool, true, false}
use mathlib.Core.Logic.{◌⊎◌, inl, inr}
use denote.Enum.Bare.{sameb}
use lib.Dec.{eqb}
use mir.Val.{bool_byte}
use Rattle.recording.specs.Tests.{one}
use Rattle.recording.specs.Words.{code_of}
use Rattle.recording.specs.Weeks.{is_rest}
use Rattle.recording.specs.contracts.Activity.{the_type}
use Rattle.recording.specs.declared.Activity.{Activity}
use Rattle.recording.specs.declared.Activity.TheVariants.{Rest, Availability, OtherWork, Driving}

-- an activity that is no rest has another code
pub no_rest : {a : Activity} → (a ≡ Availability) ⊎ (a ≡ OtherWork) ⊎ (a ≡ Driving) → is_rest (code_of a) ≡ false
no_rest (inl e) = ap (λ (x : Activity). is_rest (code_of x)) e
no_rest (inr (inl e)) = ap (λ (x : Activity). is_rest (code_of x)) e
no_rest (inr (inr e)) = ap (λ (x : Activity). is_rest (code_of x)) e

-- a test as a number
pub byte_is_one : (b : Bool) → bool_byte b ≡ one b
byte_is_one true = refl
byte_is_one false = refl

-- activities that are compared are compared by their codes
pub same_codes : (a b : Activity) → sameb the_type a b ≡ eqb (code_of a) (code_of b)
same_codes Rest Rest = refl
same_codes Rest Availability = refl
same_codes Rest OtherWork = refl
same_codes Rest Driving = refl
same_codes Availability Rest = refl
same_codes Availability Availability = refl
same_codes Availability OtherWork = refl
same_codes Availability Driving = refl
same_codes OtherWork Rest = refl
same_codes OtherWork Availability = refl
same_codes OtherWork OtherWork = refl
same_codes OtherWork Driving = refl
same_codes Driving Rest = refl
same_codes Driving Availability = refl
same_codes Driving OtherWork = refl
same_codes Driving Driving = refl
