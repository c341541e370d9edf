-- Pages whose tokens get places.
use Rattle.std.proofs.Common.{add-one, ◌≡◌, ℕ, zero, suc, ◌+◌, ◌-◌, ◌<◌, ◌≤◌, nat_lt, if◌then◌else◌, Bool, true, false, refl, ap, ◌∙◌, List, [], ◌∷◌, Option, None, Some, take, length, slice_index_or, slice_set, arith}
use Rattle.std.proofs.lemmas.Grind.{common_steps}
use Rattle.std.proofs.lemmas.Option.{slice_get_past}
use Rattle.std.specs.List.{slice_get}
use Rattle.krb_message_fields.specs.declared.places.place.Place.{Place}
use Rattle.krb_show.specs.Spots.{found, spotted}
use Rattle.krb_show.specs.Tokens.{Begins, Token, placed, placed_at, placed_behind, placed_where}

take_placed : (p : Place) (n i : ℕ) (ts : List Token) → n ≤ i → take n (placed_at p i ts) ≡ take n ts
take_placed p zero i ts less = refl
take_placed p (suc n) i [] less = refl
take_placed p (suc n) zero (t ∷ ts) less = absurd (omega (arith, less))
take_placed p (suc n) (suc i) (t ∷ ts) less = ap (λ (us : List Token). t ∷ us) (take_placed p n i ts (omega (arith, less)))

begins_either : (b : Bool) (old between changed : List Token) → Begins old between → (b ≡ true → take (length old) changed ≡ take (length old) between)
    → Begins old (if b then changed else between)
begins_either true old between changed e f = f refl ∙ e
begins_either false old between changed e f = e

-- a page begins as it did where what stands behind gets places
pub begins_placed : (p : Place) (old between : List Token) → Begins old between → Begins old (placed_behind p (length old) between)
begins_placed p old between e =
    begins_either (nat_lt (length old) (length between)) old between (placed_at p (length between - 1) (placed_at p (length old) between)) e
    (λ more. take_placed p (length old) (length between - 1) (placed_at p (length old) between) (grind (arith, common_steps, more))
    ∙ take_placed p (length old) (length old) between (omega arith))

-- the token at an index, set to itself with a place
pub set_placed : (p : Place) (i : ℕ) (ts : List Token) (t : Token) → i < length ts → t ≡ slice_index_or ts i t
    → slice_set ts i (placed p t) ≡ placed_at p i ts
set_placed p i [] t less e = absurd (omega (arith, less))
set_placed p zero (u ∷ us) t less e = ap (λ (x : Token). placed p x ∷ us) e
set_placed p (suc i) (u ∷ us) t less e = ap (λ (xs : List Token). u ∷ xs) (set_placed p i us t (omega (arith, less)) e)

-- there is none behind the end
pub none_placed : (p : Place) (i : ℕ) (ts : List Token) → length ts ≤ i → ts ≡ placed_at p i ts
none_placed p i [] less = refl
none_placed p zero (u ∷ us) less = absurd (omega (arith, less))
none_placed p (suc i) (u ∷ us) less = ap (λ (xs : List Token). u ∷ xs) (none_placed p i us (omega (arith, less)))

-- ---- places of what stands in octets of a format

pub take_where : (p : Option Place) (n i : ℕ) (ts : List Token) → n ≤ i → take n (placed_where p i ts) ≡ take n ts
take_where None n i ts less = refl
take_where (Some p) n i ts less = take_placed p n i ts less

pub take_spotted : (told : List ℕ → Token → Bool) (b : ℕ) (o : List ℕ) (ps : List (Option Place)) (n i : ℕ) (ts : List Token) → n ≤ i
    → take n (spotted told b o i ps ts) ≡ take n ts
take_spotted told b o [] n i ts less = refl
take_spotted told b o (p ∷ ps) n i ts less =
    take_spotted told b o ps n (suc i) (placed_where (found told b o p (slice_get ts i)) i ts) (omega (arith, less))
    ∙ take_where (found told b o p (slice_get ts i)) n i ts less

-- a page begins as it did where what stands behind gets these places
pub begins_kept : (old between new : List Token) → Begins old between → take (length old) new ≡ take (length old) between → Begins old new
begins_kept old between new e f = f ∙ e

-- behind the end there is no token
pub none_spotted : (told : List ℕ → Token → Bool) (b : ℕ) (o : List ℕ) (ps : List (Option Place)) (i : ℕ) (ts : List Token) → length ts ≤ i
    → ts ≡ spotted told b o i ps ts
none_spotted told b o [] i ts less = refl
none_spotted told b o (None ∷ ps) i ts less = none_spotted told b o ps (suc i) ts (omega (arith, less))
none_spotted told b o (Some p ∷ ps) i ts less = rw (slice_get_past ts i less) (none_spotted told b o ps (suc i) ts (omega (arith, less)))

-- a place more, of the token that stands at the index
pub step_spotted : (told : List ℕ → Token → Bool) (b : ℕ) (o : List ℕ) (i : ℕ) (p : Option Place) (ps rest : List (Option Place)) (ts us final : List Token)
    (t : Token) (q : Option Place) → rest ≡ p ∷ ps → slice_get ts i ≡ Some t → q ≡ found told b o p (Some t) → us ≡ placed_where q i ts
    → spotted told b o i rest ts ≡ final → spotted told b o (i + 1) ps us ≡ final
step_spotted told b o i p ps rest ts us final t q e f h k l = rw (add-one i) (rw k (rw h (rw f at (rw e at l))))
