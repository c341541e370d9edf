-- Where the PAC of a ticket stands, found element by element.
use Rattle.std.proofs.Common.{◌≡◌, ◌⊎◌, inl, inr, ℕ, zero, suc, ◌+◌, ◌-◌, ◌<◌, pos, Bool, true, false, List, [], ◌∷◌, ◌++◌, length, take, get_or, refl, sym, ap, ◌∙◌, subst, arith, MatchBool, Result, Ok, Err, IfOk}
use Rattle.std.proofs.lemmas.List.{take_more}
use Rattle.krb_der_core.specs.declared.der.DerEncode.{Ghosts as EncodingOf}
use Rattle.krb_types.specs.declared.data_types.authorization_data.AuthorizationDataInner.{AuthorizationDataInner}
use Rattle.krb_accept_rules.specs.Firsts.{EachIs}
use Rattle.krb_accept_rules.specs.Values.{HasNone, IsTheValue}
use Rattle.krb_accept.specs.Opening.{Encodes}
use Rattle.krb_accept.specs.PacPlaces.{AreKept, HasNoWay, HoldsFree, HoldsOne, HoldsPac, IsFree, IsPac, IsPacOf, IsPushedIf, IsWay, MatchHeld, OneOf, Reaches, both, field_way}
use Rattle.krb_message_fields.specs.Paths.{Leads, LeadsNowhere}
use Rattle.krb_message_fields.specs.PathLaws.{one_end}
use Rattle.krb_message_fields.specs.declared.places.place.Step.{Step}
use Rattle.krb_accept.specs.declared.pac_places.Held.{Held}
use Rattle.krb_accept.specs.declared.pac_places.Held.TheVariants as held

-- ---- rows of elements

pub longer : {A : Type 0} (xs : List A) (i : ℕ) (x : A) → i < length xs → x ≡ get_or xs i x → take (i + 1) xs ≡ take i xs ++ x ∷ []
longer xs i x lt is = take_more xs i x lt ∙ ap (λ y. take i xs ++ y ∷ []) (sym is)

pub each_push : {A : Type 0} (free : A → Type 0) (xs : List A) (x : A) → EachIs free xs → free x → EachIs free (xs ++ x ∷ [])
each_push free [] x h f = (f, tt)
each_push free (y ∷ xs) x (g, h) f = (g, each_push free xs x h f)

pub each_front : {A : Type 0} (free : A → Type 0) (xs : List A) (x : A) → EachIs free (xs ++ x ∷ []) → EachIs free xs
each_front free [] x h = tt
each_front free (y ∷ xs) x (g, h) = (g, each_front free xs x h)

pub each_last : {A : Type 0} (free : A → Type 0) (xs : List A) (x : A) → EachIs free (xs ++ x ∷ []) → free x
each_last free [] x (f, h) = f
each_last free (y ∷ xs) x (g, h) = each_last free xs x h

-- one of them, by its place
pub each_nth : {A : Type 0} (free : A → Type 0) (xs : List A) (i : ℕ) (d x : A) → i < length xs → x ≡ get_or xs i d → EachIs free xs → free x
each_nth free [] i d x lt is h = absurd (omega (arith, lt))
each_nth free (y ∷ xs) zero d x lt is h = subst free (sym is) h.0
each_nth free (y ∷ xs) (suc i) d x lt is h = each_nth free xs i d x (omega (arith, lt)) is h.1

-- and so with one more
pub each_more : {A : Type 0} (free : A → Type 0) (xs : List A) (i : ℕ) (x : A) → i < length xs → x ≡ get_or xs i x → EachIs free (take i xs) → free x
    → EachIs free (take (i + 1) xs)
each_more free xs i x lt is h f = subst (EachIs free) (sym (longer xs i x lt is)) (each_push free (take i xs) x h f)

module _ {A B : Type 0} (free : A → Type 0) (has : A → B → Type 0) where
  -- one more that is free
  one_push : (xs : List A) (x : A) (v : B) → OneOf free has xs v → free x → OneOf free has (xs ++ x ∷ []) v
  one_push [] x v h f = absurd h
  one_push (y ∷ xs) x v (inl h) f = inl (h.0, each_push free xs x h.1 f)
  one_push (y ∷ xs) x v (inr h) f = inr (h.0, one_push xs x v h.1 f)

  -- one more that has it, where all others are free
  one_last : (xs : List A) (x : A) (v : B) → EachIs free xs → has x v → OneOf free has (xs ++ x ∷ []) v
  one_last [] x v e h = inl (h, tt)
  one_last (y ∷ xs) x v (f, e) h = inr (f, one_last xs x v e h)

  -- where one of a longer row has it, it is the last one or not
  one_of : (xs : List A) (x : A) (v : B) → OneOf free has (xs ++ x ∷ []) v → (OneOf free has xs v × free x) ⊎ (EachIs free xs × has x v)
  one_of [] x v (inl h) = inr (tt, h.0)
  one_of [] x v (inr h) = absurd h.1
  one_of (y ∷ xs) x v (inl h) = inl (inl (h.0, each_front free xs x h.1), each_last free xs x h.1)
  one_of (y ∷ xs) x v (inr h) =
      elim (one_of xs x v h.1) [ inl p ↦ inl (inr (h.0, p.0), p.1) | inr p ↦ inr ((h.0, p.0), p.1) ]

module _ {A : Type 0} (free : A → Type 0) (has : A → List ℕ → Type 0) (xs : List A) (x : A) where
  -- where the last one is neither
  neither_last : (free x → ⊥) → ((v : List ℕ) → has x v → ⊥) → (EachIs free (xs ++ x ∷ []) → ⊥) × ((v : List ℕ) → OneOf free has (xs ++ x ∷ []) v → ⊥)
  neither_last f h = (
    λ e. f (each_last free xs x e),
    λ v o. elim (one_of free has xs x v o) [ inl p ↦ f p.1 | inr p ↦ h v p.1 ],
  )

  -- where those before it are neither
  neither_before : (EachIs free xs → ⊥) → ((v : List ℕ) → OneOf free has xs v → ⊥)
      → (EachIs free (xs ++ x ∷ []) → ⊥) × ((v : List ℕ) → OneOf free has (xs ++ x ∷ []) v → ⊥)
  neither_before f h = (
    λ e. f (each_front free xs x e),
    λ v o. elim (one_of free has xs x v o) [ inl p ↦ h v p.0 | inr p ↦ f p.0 ],
  )

  -- where one of those before it has it, and so has the last
  two : (EachIs free xs → ⊥) → (free x → ⊥) → (EachIs free (xs ++ x ∷ []) → ⊥) × ((v : List ℕ) → OneOf free has (xs ++ x ∷ []) v → ⊥)
  two f g = (
    λ e. f (each_front free xs x e),
    λ v o. elim (one_of free has xs x v o) [ inl p ↦ g p.1 | inr p ↦ f p.0 ],
  )

  -- what is found in a row and behind it
  pub both_found : (first next : Held) → MatchHeld first (EachIs free xs) (OneOf free has xs) → MatchHeld next (free x) (has x)
      → MatchHeld (both first next) (EachIs free (xs ++ x ∷ [])) (OneOf free has (xs ++ x ∷ []))
  both_found held.Nowhere held.Nowhere p q = each_push free xs x p q
  both_found held.Nowhere (held.Once w) p q = (one_last free has xs x w.items p q.0, λ e. q.1 (each_last free xs x e))
  both_found held.Nowhere held.Elsewhere p q = neither_last q.0 q.1
  both_found (held.Once v) held.Nowhere p q = (one_push free has xs x v.items p.0 q, λ e. p.1 (each_front free xs x e))
  both_found (held.Once v) (held.Once w) p q = two p.1 q.1
  both_found (held.Once v) held.Elsewhere p q = two p.1 q.0
  both_found held.Elsewhere next p q = neither_before p.0 p.1

-- and so with one more element of a row that is gone through
pub held_more : {A : Type 0} (free : A → Type 0) (has : A → List ℕ → Type 0) (xs : List A) (i : ℕ) (x : A) (first next now : Held) → i < length xs → x ≡ get_or xs i x
    → now ≡ both first next → MatchHeld first (EachIs free (take i xs)) (OneOf free has (take i xs)) → MatchHeld next (free x) (has x)
    → MatchHeld now (EachIs free (take (i + 1) xs)) (OneOf free has (take (i + 1) xs))
held_more free has xs i x first next now lt is e h g =
    subst (λ (k : Held). MatchHeld k (EachIs free (take (i + 1) xs)) (OneOf free has (take (i + 1) xs))) (sym e)
    (subst (λ l. MatchHeld (both first next) (EachIs free l) (OneOf free has l)) (sym (longer xs i x lt is)) (both_found free has (take i xs) x first next h g))

-- ---- elements that are kept

pub kept_push : {A : Type 0} (free : A → Type 0) (xs : List A) (x : A) (kept : List A) → AreKept free xs kept → free x → AreKept free (xs ++ x ∷ []) (kept ++ x ∷ [])
kept_push free [] x kept h f = inl (f, ([], subst (λ k. k ++ x ∷ [] ≡ x ∷ []) (sym h) refl, refl))
kept_push free (y ∷ xs) x kept (inl h) f =
    inl (h.0, (h.1.0 ++ x ∷ [], subst (λ k. k ++ x ∷ [] ≡ y ∷ (h.1.0 ++ x ∷ [])) (sym h.1.1) refl, kept_push free xs x h.1.0 h.1.2 f))
kept_push free (y ∷ xs) x kept (inr h) f = inr (h.0, kept_push free xs x kept h.1 f)

pub kept_drop : {A : Type 0} (free : A → Type 0) (xs : List A) (x : A) (kept : List A) → AreKept free xs kept → (free x → ⊥) → AreKept free (xs ++ x ∷ []) kept
kept_drop free [] x kept h f = inr (f, h)
kept_drop free (y ∷ xs) x kept (inl h) f = inl (h.0, (h.1.0, h.1.1, kept_drop free xs x h.1.0 h.1.2 f))
kept_drop free (y ∷ xs) x kept (inr h) f = inr (h.0, kept_drop free xs x kept h.1 f)

-- and so with one more
pub kept_more : {A : Type 0} (free : A → Type 0) (xs : List A) (i : ℕ) (x : A) (kept now : List A) → i < length xs → x ≡ get_or xs i x → AreKept free (take i xs) kept
    → IsPushedIf free x kept now → AreKept free (take (i + 1) xs) now
kept_more free xs i x kept now lt is h (inl p) =
    subst (λ l. AreKept free l now) (sym (longer xs i x lt is)) (subst (AreKept free (take i xs ++ x ∷ [])) (sym p.1) (kept_push free (take i xs) x kept h p.0))
kept_more free xs i x kept now lt is h (inr p) =
    subst (λ l. AreKept free l now) (sym (longer xs i x lt is)) (subst (AreKept free (take i xs ++ x ∷ [])) (sym p.1) (kept_drop free (take i xs) x kept h p.0))

-- each that is kept is free
pub kept_free : {A : Type 0} (free : A → Type 0) (xs kept : List A) → AreKept free xs kept → EachIs free kept
kept_free free [] kept h = subst (EachIs free) (sym h) tt
kept_free free (y ∷ xs) kept (inl h) = subst (EachIs free) (sym h.1.1) (h.0, kept_free free xs h.1.0 h.1.2)
kept_free free (y ∷ xs) kept (inr h) = kept_free free xs kept h.1

one_less : (n : ℕ) → suc n - 1 ≡ n
one_less n = omega arith

-- ---- what octets hold

module _ (t : EncodingOf (List AuthorizationDataInner)) (octets : List ℕ) where
  pub free_within : (n : ℕ) (inner elements : List AuthorizationDataInner) → IsTheValue (Encodes t octets) inner → elements ≡ inner → EachIs (IsFree t n) elements
      → HoldsFree t (suc n) octets
  unfolding HoldsFree
  free_within n inner elements is same h = (inner, is.holds, subst (EachIs (IsFree t n)) same h)

  pub not_free_within : (n : ℕ) (inner elements : List AuthorizationDataInner) → IsTheValue (Encodes t octets) inner → elements ≡ inner
      → (EachIs (IsFree t n) elements → ⊥) → HoldsFree t (suc n) octets → ⊥
  unfolding HoldsFree
  not_free_within n inner elements is same h p =
      h (subst (EachIs (IsFree t n)) (sym same) (subst (EachIs (IsFree t n)) (is.only p.0 p.1) p.2))

  pub none_within : (n : ℕ) → HasNone (Encodes t octets) → HoldsFree t (suc n) octets → ⊥
  unfolding HoldsFree
  none_within n none p = none p.0 p.1

  pub no_level : HoldsFree t 0 octets → ⊥
  unfolding HoldsFree
  no_level p = p

  -- whether the elements of one value are free says whether its octets hold no PAC
  pub free_so : {E : Type 0} (n : ℕ) (inner elements : List AuthorizationDataInner) (r : Result Bool E) → (n ≡ 0 → ⊥) → IsTheValue (Encodes t octets) inner
      → elements ≡ inner → IfOk r (λ is. MatchBool is (EachIs (IsFree t (n - 1)) elements) (EachIs (IsFree t (n - 1)) elements → ⊥))
      → IfOk r (λ is. MatchBool is (HoldsFree t n octets) (HoldsFree t n octets → ⊥))
  free_so zero inner elements r positive is same h = absurd (positive refl)
  free_so (suc n) inner elements (Err e) positive is same h = tt
  free_so (suc n) inner elements (Ok true) positive is same h =
      free_within n inner elements is same (subst (λ k. EachIs (IsFree t k) elements) (one_less n) h)
  free_so (suc n) inner elements (Ok false) positive is same h =
      not_free_within n inner elements is same (λ g. h (subst (λ k. EachIs (IsFree t k) elements) (sym (one_less n)) g))

  pub none_so : (n : ℕ) → (n ≡ 0 → ⊥) → HasNone (Encodes t octets) → HoldsFree t n octets → ⊥
  none_so zero positive none h = positive refl
  none_so (suc n) positive none h = none_within n none h

  pub not_at_zero : (n : ℕ) → n ≡ 0 → HoldsFree t n octets → ⊥
  not_at_zero n e h = no_level (subst (λ k. HoldsFree t k octets) e h)

  -- what is found among the elements of one value is found in its octets
  pub found_within : (found : Held) (inner elements : List AuthorizationDataInner) → IsTheValue (Encodes t octets) inner → elements ≡ inner
      → MatchHeld found (EachIs (IsFree t 15) elements) (OneOf (IsFree t 15) IsPacOf elements) → MatchHeld found (HoldsFree t 16 octets) (HoldsOne t octets)
  found_within held.Nowhere inner elements is same h = free_within 15 inner elements is same h
  found_within (held.Once v) inner elements is same h = (
    record { inner = inner; encoded = is.holds; one = subst (λ (l : List AuthorizationDataInner). OneOf (IsFree t 15) IsPacOf l v.items) same h.0 },
    not_free_within 15 inner elements is same h.1,
  )
  found_within held.Elsewhere inner elements is same h = (
    not_free_within 15 inner elements is same h.0,
    λ v o. h.1 v (subst (λ (l : List AuthorizationDataInner). OneOf (IsFree t 15) IsPacOf l v) (sym same)
        (subst (λ (l : List AuthorizationDataInner). OneOf (IsFree t 15) IsPacOf l v) (is.only o.inner o.encoded) o.one)),
  )

  pub found_within_so : {E : Type 0} (inner elements : List AuthorizationDataInner) (r : Result Held E) → IsTheValue (Encodes t octets) inner → elements ≡ inner
      → IfOk r (λ found. MatchHeld found (EachIs (IsFree t 15) elements) (OneOf (IsFree t 15) IsPacOf elements))
      → IfOk r (λ found. MatchHeld found (HoldsFree t 16 octets) (HoldsOne t octets))
  found_within_so inner elements (Ok found) is same h = found_within found inner elements is same h
  found_within_so inner elements (Err x) is same h = tt

  pub none_found : HasNone (Encodes t octets) → MatchHeld held.Elsewhere (HoldsFree t 16 octets) (HoldsOne t octets)
  none_found none = (none_within 15 none, λ v o. none o.inner o.encoded)

-- ---- ways into elements

module _ (e : AuthorizationDataInner) where
  apart : (a b : ℕ) → e.ad_type ≡ pos a → e.ad_type ≡ pos b → a ≡ b
  apart a b p q = cc

  whole_apart : (b : ℕ) → (1 ≡ b → ⊥) → (8 ≡ b → ⊥) → (e.ad_type ≡ pos 1) ⊎ (e.ad_type ≡ pos 8) → e.ad_type ≡ pos b → ⊥
  whole_apart b one eight (inl p) q = one (apart 1 b p q)
  whole_apart b one eight (inr p) q = eight (apart 8 b p q)

  -- an element has one way
  pub one_way : (way other : List Step) → IsWay e way → IsWay e other → way ≡ other
  one_way way other (inl p) (inl q) = p.1 ∙ sym q.1
  one_way way other (inl p) (inr (inl q)) = absurd (whole_apart 4 (λ k. cc) (λ k. cc) p.0 q.0)
  one_way way other (inl p) (inr (inr (inl q))) = absurd (whole_apart 5 (λ k. cc) (λ k. cc) p.0 q.0)
  one_way way other (inl p) (inr (inr (inr q))) = absurd (whole_apart 96 (λ k. cc) (λ k. cc) p.0 q.0)
  one_way way other (inr (inl p)) (inl q) = absurd (whole_apart 4 (λ k. cc) (λ k. cc) q.0 p.0)
  one_way way other (inr (inl p)) (inr (inl q)) = p.1 ∙ sym q.1
  one_way way other (inr (inl p)) (inr (inr (inl q))) = let k = apart 4 5 p.0 q.0 in absurd (cc)
  one_way way other (inr (inl p)) (inr (inr (inr q))) = let k = apart 4 96 p.0 q.0 in absurd (cc)
  one_way way other (inr (inr (inl p))) (inl q) = absurd (whole_apart 5 (λ k. cc) (λ k. cc) q.0 p.0)
  one_way way other (inr (inr (inl p))) (inr (inl q)) = let k = apart 5 4 p.0 q.0 in absurd (cc)
  one_way way other (inr (inr (inl p))) (inr (inr (inl q))) = p.1 ∙ sym q.1
  one_way way other (inr (inr (inl p))) (inr (inr (inr q))) = let k = apart 5 96 p.0 q.0 in absurd (cc)
  one_way way other (inr (inr (inr p))) (inl q) = absurd (whole_apart 96 (λ k. cc) (λ k. cc) q.0 p.0)
  one_way way other (inr (inr (inr p))) (inr (inl q)) = let k = apart 96 4 p.0 q.0 in absurd (cc)
  one_way way other (inr (inr (inr p))) (inr (inr (inl q))) = let k = apart 96 5 p.0 q.0 in absurd (cc)
  one_way way other (inr (inr (inr p))) (inr (inr (inr q))) = p.1 ∙ sym q.1

  pub no_way : ((e.ad_type ≡ pos 1) ⊎ (e.ad_type ≡ pos 8) → ⊥) → (e.ad_type ≡ pos 4 → ⊥) → (e.ad_type ≡ pos 5 → ⊥) → (e.ad_type ≡ pos 96 → ⊥) → HasNoWay e
  no_way whole issued and_or cammac way (inl p) = whole p.0
  no_way whole issued and_or cammac way (inr (inl p)) = issued p.0
  no_way whole issued and_or cammac way (inr (inr (inl p))) = and_or p.0
  no_way whole issued and_or cammac way (inr (inr (inr p))) = cammac p.0

module _ (t : EncodingOf (List AuthorizationDataInner)) (n : ℕ) (e : AuthorizationDataInner) where
  pub free_without_way : (IsPac e → ⊥) → HasNoWay e → IsFree t n e
  free_without_way other none = (other, λ way is. absurd (none way is))

  -- an element whose way leads nowhere
  pub not_free_nowhere : (way : List Step) (octets : List ℕ) → octets ≡ e.ad_data → IsWay e way → LeadsNowhere way octets → IsFree t n e → ⊥
  not_free_nowhere way octets same is nowhere f =
      let k = f.1 way is in
      nowhere k.1.0 k.0 (subst (λ (l : List ℕ). Leads way l k.1.0 k.0) (sym same) k.1.1)

  free_by_way : (way : List Step) (inner : List ℕ) → (IsPac e → ⊥) → IsWay e way → Reaches way e.ad_data inner → HoldsFree t n inner → IsFree t n e
  free_by_way way inner other is reached h =
      (other, λ w is_w. (inner, subst (λ (p : List Step). Reaches p e.ad_data inner) (one_way e way w is is_w) reached, h))

  not_free_by_way : (way : List Step) (inner : List ℕ) → IsWay e way → Reaches way e.ad_data inner → (HoldsFree t n inner → ⊥) → IsFree t n e → ⊥
  not_free_by_way way inner is reached h f =
      let k = f.1 way is in
      h (subst (λ (l : List ℕ). HoldsFree t n l) (one_end way e.ad_data k.1.0 reached.0 k.0 inner k.1.1 reached.1).1 k.2)

  -- whether what the way reaches holds no PAC says whether none stands in the element
  pub free_by_way_so : {E : Type 0} (way : List Step) (octets inner : List ℕ) (r : Result Bool E) → (IsPac e → ⊥) → IsWay e way → octets ≡ e.ad_data
      → Reaches way octets inner → IfOk r (λ is. MatchBool is (HoldsFree t n inner) (HoldsFree t n inner → ⊥))
      → IfOk r (λ is. MatchBool is (IsFree t n e) (IsFree t n e → ⊥))
  free_by_way_so way octets inner (Err x) other is same reached h = tt
  free_by_way_so way octets inner (Ok true) other is same reached h =
      free_by_way way inner other is (subst (λ (l : List ℕ). Reaches way l inner) same reached) h
  free_by_way_so way octets inner (Ok false) other is same reached h =
      not_free_by_way way inner is (subst (λ (l : List ℕ). Reaches way l inner) same reached) h

-- ---- what an element holds

not_a_pac : (e : AuthorizationDataInner) → e.ad_type ≡ pos 1 → IsPac e → ⊥
not_a_pac e p q = cc

module _ (t : EncodingOf (List AuthorizationDataInner)) (e : AuthorizationDataInner) where
  -- what is found in the octets of an AD-IF-RELEVANT is found in it
  whole_way : e.ad_type ≡ pos 1 → IsWay e []
  whole_way is = inl (inl is, refl)

  itself : Reaches [] e.ad_data e.ad_data
  itself = (0, (refl, refl))

  pub found_in : (found : Held) → e.ad_type ≡ pos 1 → MatchHeld found (HoldsFree t 16 e.ad_data) (HoldsOne t e.ad_data) → MatchHeld found (IsFree t 16 e) (HoldsPac t e)
  found_in held.Nowhere is h = free_by_way t 16 e [] e.ad_data (not_a_pac e is) (whole_way is) itself h
  found_in (held.Once v) is h = ((is, h.0), not_free_by_way t 16 e [] e.ad_data (whole_way is) itself h.1)
  found_in held.Elsewhere is h = (not_free_by_way t 16 e [] e.ad_data (whole_way is) itself h.0, λ v o. h.1 v o.1)

  pub found_in_so : {E : Type 0} (octets : List ℕ) (r : Result Held E) → e.ad_type ≡ pos 1 → octets ≡ e.ad_data
      → IfOk r (λ found. MatchHeld found (HoldsFree t 16 octets) (HoldsOne t octets)) → IfOk r (λ found. MatchHeld found (IsFree t 16 e) (HoldsPac t e))
  found_in_so octets (Ok found) is same h =
      found_in found is (subst (λ l. MatchHeld found (HoldsFree t 16 l) (HoldsOne t l)) same h)
  found_in_so octets (Err x) is same h = tt

  pub free_in : (e.ad_type ≡ pos 1 → ⊥) → (IsFree t 16 e → ⊥) → MatchHeld held.Elsewhere (IsFree t 16 e) (HoldsPac t e)
  free_in is h = (h, λ v o. is o.0)
