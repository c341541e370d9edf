-- Elements up to the end of the octets, as a loop reads them.
use Rattle.std.proofs.Common.{◌≡◌, ℕ, ◌<◌, true, false, eqb, List, [], ◌∷◌, length, take, drop, Result, Ok, Err, refl, ◌∙◌, arith}
use Rattle.krb_files.specs.declared.fields.error.FieldError.{FieldError}
use Rattle.krb_files.specs.Alls.{IsSequence, IsReadTo, shorter, reads-more, reads-error, reads-all, shows-first, shows-none, shows-error}
use Rattle.krb_files.specs.Laws.{IsOctets}
use Rattle.krb_files.specs.FieldReading.{typed_at, is_nil, all_at, shown_all}
use Rattle.krb_files.specs.CcacheReading.{header_at, shown_fields}
use Rattle.krb_files.specs.declared.ccache.view.CcacheVersion.{CcacheVersion}
use Rattle.krb_files.specs.declared.ccache.view.CcacheVersion.TheVariants.{Three}

goes_on : (b : List ℕ) → false ≡ eqb (length b) 0 → is_nil b ≡ false
goes_on [] e = absurd cc
goes_on (x ∷ b) e = refl

ended : (b : List ℕ) → true ≡ eqb (length b) 0 → is_nil b ≡ true
ended [] e = refl
ended (x ∷ b) e = let n : eqb (length (x ∷ b)) 0 ≡ false = grind arith in absurd cc

some_octets : (b : List ℕ) → is_nil b ≡ false → 0 < length b
some_octets [] e = absurd cc
some_octets (x ∷ b) e = omega arith

pub less_left : {A : Type 0} (read : List ℕ → Result (A × List ℕ) FieldError) (octets : A → List ℕ) (Fits : A → Type 0) → IsSequence is_nil read octets Fits
    → (rest : List ℕ) (x : A) (after : List ℕ) → IsOctets rest → read rest ≡ Ok (x, after) → length after < length rest
less_left read octets Fits q rest x after fits e = shorter is_nil read octets Fits q rest x after fits e

pub more_read : {A : Type 0} (read : List ℕ → Result (A × List ℕ) FieldError) (octets : A → List ℕ) (Fits : A → Type 0) → IsSequence is_nil read octets Fits
    → (b rest : List ℕ) (x : A) (after : List ℕ) → false ≡ eqb (length rest) 0 → read rest ≡ Ok (x, after) → IsReadTo is_nil read b rest × IsOctets rest
    → IsReadTo is_nil read b after × IsOctets after
more_read read octets Fits q b rest x after some e so_far = (
  reads-more is_nil read octets Fits q b rest x after so_far.1 (goes_on rest some) e so_far.0,
  (q.element.takes rest x after so_far.1 e).0.rest_fits,
)

pub error_read : {A : Type 0} (read : List ℕ → Result (A × List ℕ) FieldError) (b rest : List ℕ) (f : FieldError) → false ≡ eqb (length rest) 0 → read rest ≡ Err f
    → IsReadTo is_nil read b rest → all_at is_nil read (length b) b ≡ Err f
error_read read b rest f some e so_far =
    let go = goes_on rest some in
    reads-error is_nil read b rest f (some_octets rest go) go e so_far

pub all_read : {A : Type 0} (read : List ℕ → Result (A × List ℕ) FieldError) (b rest : List ℕ) → true ≡ eqb (length rest) 0 → IsReadTo is_nil read b rest
    → all_at is_nil read (length b) b ≡ Ok (shown_all is_nil read (length b) b)
all_read read b rest none so_far = reads-all is_nil read b rest (ended rest none) so_far

pub first_shown : {A : Type 0} (read : List ℕ → Result (A × List ℕ) FieldError) (octets : A → List ℕ) (Fits : A → Type 0) → IsSequence is_nil read octets Fits
    → (b : List ℕ) (x : A) (after : List ℕ) → IsOctets b → false ≡ eqb (length b) 0 → read b ≡ Ok (x, after) → shown_all is_nil read (length b) b ≡ x ∷ shown_all is_nil read (length after) after
first_shown read octets Fits q b x after fits some e = shows-first is_nil read octets Fits q b x after fits (goes_on b some) e

pub none_shown : {A : Type 0} (read : List ℕ → Result (A × List ℕ) FieldError) (b : List ℕ) → true ≡ eqb (length b) 0 → shown_all is_nil read (length b) b ≡ []
none_shown read b none = shows-none is_nil read b (ended b none)

pub error_shown : {A : Type 0} (read : List ℕ → Result (A × List ℕ) FieldError) (b : List ℕ) (f : FieldError) → false ≡ eqb (length b) 0 → read b ≡ Err f → shown_all is_nil read (length b) b ≡ []
error_shown read b f some e =
    let go = goes_on b some in
    shows-error is_nil read b f (some_octets b go) go e

take_none : (b : List ℕ) → take 0 b ≡ []
take_none [] = refl
take_none (x ∷ b) = refl

drop_none : (b : List ℕ) → drop 0 b ≡ b
drop_none [] = refl
drop_none (x ∷ b) = refl

-- version 3 has no header
pub no_header : (v : CcacheVersion) (b x y : List ℕ) → v ≡ Three → x ≡ take 0 b → y ≡ drop 0 b → header_at v b ≡ Ok (shown_fields x, y)
unfolding header_at
no_header v b x y e front back =
    let none : x ≡ [] = front ∙ take_none b in
    let nothing : shown_fields [] ≡ [] = shows-none is_nil (typed_at 2) [] refl in
    rw (e, none, nothing, back, drop_none b) refl
