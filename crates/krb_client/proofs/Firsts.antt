-- The first of some.
use Rattle.std.proofs.Common.{◌≡◌, ℕ, ◌+◌, ◌<◌, suc, List, [], ◌∷◌, ◌++◌, sym, subst, ap, ◌∙◌, add-one, length, take, drop, get_or}
use Rattle.std.proofs.Math.Seq.{split_at, take-suc}
use Rattle.krb_crypto.specs.declared.cipher_suite.CipherSuite.{CipherSuite}
use Rattle.krb_types.specs.declared.data_types.etype_info.EtypeInfo2Entry.{EtypeInfo2Entry}
use Rattle.krb_client.specs.Firsts.{NoneIs}
use Rattle.krb_client.specs.KeyHints.{HasEntry, IsEntryOf}

-- a list, cut around the item at an index
pub cut_at : {A : Type 0} (xs : List A) (i : ℕ) (x : A) → i < length xs → x ≡ get_or xs i x → xs ≡ take i xs ++ x ∷ drop (suc i) xs
cut_at xs i x lt is = subst (λ y. xs ≡ take i xs ++ y ∷ drop (suc i) xs) (sym is) (split_at xs i x lt)

none_at : {A : Type 0} (fact : A → Type 0) (front back : List A) (item : A) → NoneIs fact (front ++ item ∷ back) → fact item → ⊥
none_at fact [] back item (n, rest) h = n h
none_at fact (x ∷ front) back item (n, rest) h = none_at fact front back item rest h

-- where no entry is of the suite, it has none
pub none_has : (entries : List EtypeInfo2Entry) (suite : CipherSuite) → NoneIs (IsEntryOf suite) entries → HasEntry entries suite → ⊥
none_has entries suite none one = none_at (IsEntryOf suite) one.1.front one.1.back one.0 (subst (NoneIs (IsEntryOf suite)) one.1.among none) one.1.has

none_snoc : {A : Type 0} (fact : A → Type 0) (xs : List A) (x : A) → NoneIs fact xs → (fact x → ⊥) → NoneIs fact (xs ++ x ∷ [])
none_snoc fact [] x none not = (not, tt)
none_snoc fact (y ∷ ys) x (n, ns) not = (n, none_snoc fact ys x ns not)

-- none up to an index has it, and nor has the item there
pub none_next : {A : Type 0} (fact : A → Type 0) (xs : List A) (i : ℕ) (d : A) → i < length xs → NoneIs fact (take i xs) → (fact (get_or xs i d) → ⊥) → NoneIs fact (take (i + 1) xs)
none_next fact xs i d lt none not =
    subst (NoneIs fact) (sym (ap (λ (n : ℕ). take n xs) (add-one i) ∙ take-suc xs i d lt)) (none_snoc fact (take i xs) (get_or xs i d) none not)
