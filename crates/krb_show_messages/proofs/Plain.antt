-- What octets begin with, piece by piece.
use Rattle.std.proofs.Common.{◌≡◌, ◌≢◌, ◌<◌, ℕ, zero, suc, nat_eq, refl, arith, replicate, None, Some, get_or, List, [], ◌∷◌, ◌++◌, take, drop, length, ◌+◌, true, false, Bool, sym, ap, ◌∙◌, Option, Bor}
use Rattle.std.specs.Prelude.{MatchBool, MatchOption}
use Rattle.std.specs.Cmp.Lexicographic.{pointwise}
use Rattle.std.specs.List.{flat_map}
use Rattle.std.proofs.lemmas.Bool.{eqb-true}
use Rattle.std.proofs.lemmas.Bool.Decides.{Decides-eqb}
use Rattle.std.proofs.lemmas.Grind.{flat_map-append}
use Rattle.std.proofs.lemmas.List.{append_assoc, append-nil, append_cancel_left, flat_map_more, length-append, take_more, take-append-drop}
use Rattle.std.proofs.lemmas.Slice.Eq.{strip_prefix_is}

pub behind_is : (octets first : List ℕ) (r : Option (Bor (List ℕ)))
    → MatchOption r (pointwise nat_eq (take (length first) octets) first ≡ false)
    (λ x. (pointwise nat_eq (take (length first) octets) first ≡ true) × (x.now ≡ drop (length first) octets) × (length x.now + length first ≡ length octets))
    → MatchOption r ((rest : List ℕ) → octets ≢ first ++ rest) (λ x. octets ≡ first ++ x.now)
behind_is octets first r h = strip_prefix_is Decides-eqb octets first r h

-- ---- pieces of a list

pub begins_more : {A : Type 0} (f : A → List ℕ) (done : List A) (x : A) (octets rest after : List ℕ)
    → octets ≡ flat_map f done ++ rest → rest ≡ f x ++ after → octets ≡ flat_map f (done ++ x ∷ []) ++ after
begins_more f done x octets rest after e g =
    e ∙ ap (λ l. flat_map f done ++ l) g ∙ sym (append_assoc (flat_map f done) (f x) after) ∙ ap (λ l. l ++ after) (flat_map_more f [] done x)

pub begins_not : {A : Type 0} (f : A → List ℕ) (done more : List A) (x : A) (octets rest : List ℕ)
    → octets ≡ flat_map f done ++ rest → ((after : List ℕ) → rest ≢ f x ++ after) → (after : List ℕ) → octets ≢ flat_map f ((done ++ x ∷ []) ++ more) ++ after
begins_not f done more x octets rest e other after g =
    let piece = flat_map_more f [] done x in
    let all = flat_map-append f (done ++ x ∷ []) more in
    other (flat_map f more ++ after) (append_cancel_left (flat_map f done) rest (f x ++ (flat_map f more ++ after))
    (sym e ∙ g ∙ ap (λ l. l ++ after) all ∙ append_assoc (flat_map f (done ++ x ∷ [])) (flat_map f more) after
    ∙ ap (λ l. l ++ (flat_map f more ++ after)) (sym piece) ∙ append_assoc (flat_map f done) (f x) (flat_map f more ++ after)))

-- the first so many, the next, and those behind it are all
pub taken_item : {A : Type 0} (xs : List A) (n : ℕ) (x : A) → n < length xs → x ≡ get_or xs n x → take (n + 1) xs ≡ take n xs ++ x ∷ []
taken_item xs n x room e = take_more xs n x room ∙ ap (λ y. take n xs ++ y ∷ []) (sym e)

pub all_of_them : {A : Type 0} (xs : List A) (n : ℕ) (x : A) → n < length xs → x ≡ get_or xs n x → (take n xs ++ x ∷ []) ++ drop (n + 1) xs ≡ xs
all_of_them xs n x room e = ap (λ l. l ++ drop (n + 1) xs) (sym (taken_item xs n x room e)) ∙ take-append-drop (n + 1) xs

-- ---- two pieces

pub two_pieces : (octets a b rest : List ℕ) (r : Option (Bor (List ℕ))) → octets ≡ a ++ rest
    → MatchOption r ((after : List ℕ) → rest ≢ b ++ after) (λ x. rest ≡ b ++ x.now)
    → MatchOption r ((after : List ℕ) → octets ≢ (a ++ b) ++ after) (λ x. octets ≡ (a ++ b) ++ x.now)
two_pieces octets a b rest None e h = λ after g. h after (append_cancel_left a rest (b ++ after) (sym e ∙ g ∙ append_assoc a b after))
two_pieces octets a b rest (Some x) e h = e ∙ ap (λ l. a ++ l) h ∙ sym (append_assoc a b x.now)

-- of eight zeros, the first
pub zeros_taken : (n : ℕ) → n < 8 → take {A = ℕ} n (0 ∷ 0 ∷ 0 ∷ 0 ∷ 0 ∷ 0 ∷ 0 ∷ 0 ∷ []) ≡ replicate n 0
zeros_taken zero h = refl
zeros_taken (suc zero) h = refl
zeros_taken (suc (suc zero)) h = refl
zeros_taken (suc (suc (suc zero))) h = refl
zeros_taken (suc (suc (suc (suc zero)))) h = refl
zeros_taken (suc (suc (suc (suc (suc zero))))) h = refl
zeros_taken (suc (suc (suc (suc (suc (suc zero)))))) h = refl
zeros_taken (suc (suc (suc (suc (suc (suc (suc zero))))))) h = refl
zeros_taken (suc (suc (suc (suc (suc (suc (suc (suc n)))))))) h = absurd (omega (arith, h))

-- ---- all pieces

-- octets that do not begin with a piece are not all of them
pub not_first : (octets head entries buffers : List ℕ) → ((rest : List ℕ) → octets ≢ head ++ rest) → octets ≢ head ++ (entries ++ buffers)
not_first octets head entries buffers h e = h (entries ++ buffers) e

pub not_second : (octets head entries buffers rest : List ℕ) → octets ≡ head ++ rest → ((after : List ℕ) → rest ≢ entries ++ after) → octets ≢ head ++ (entries ++ buffers)
not_second octets head entries buffers rest e h f = h buffers (append_cancel_left head rest (entries ++ buffers) (sym e ∙ f))

pub not_third : (octets head entries buffers rest after : List ℕ) → octets ≡ head ++ rest → rest ≡ entries ++ after → ((end : List ℕ) → after ≢ buffers ++ end)
    → octets ≢ head ++ (entries ++ buffers)
not_third octets head entries buffers rest after e f h g =
    h [] (append_cancel_left entries after buffers (sym f ∙ append_cancel_left head rest (entries ++ buffers) (sym e ∙ g)) ∙ sym (append-nil buffers))

apart : true ≡ false → ⊥
apart e = cc

pub all_pieces : (octets head entries buffers rest after end : List ℕ) → octets ≡ head ++ rest → rest ≡ entries ++ after → after ≡ buffers ++ end
    → (b : Bool) → b ≡ nat_eq (length end) 0 → MatchBool b (octets ≡ head ++ (entries ++ buffers)) (octets ≢ head ++ (entries ++ buffers))
all_pieces octets head entries buffers rest after [] e f h true is = e ∙ ap (λ l. head ++ l) (f ∙ ap (λ l. entries ++ l) (h ∙ append-nil buffers))
all_pieces octets head entries buffers rest after [] e f h false is = absurd (apart (sym is))
all_pieces octets head entries buffers rest after (x ∷ end) e f h true is = absurd (omega (arith, eqb-true (length (x ∷ end)) 0 (sym is)))
all_pieces octets head entries buffers rest after (x ∷ end) e f h false is = λ g.
    let whole : after ≡ buffers = append_cancel_left entries after buffers (sym f ∙ append_cancel_left head rest (entries ++ buffers) (sym e ∙ g)) in
    omega (arith, ap length (sym whole ∙ h), length-append buffers (x ∷ end))
