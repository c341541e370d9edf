-- Contents at places, and broken rules one behind another.
use Rattle.std.proofs.Math.Seq.{take-suc}
use Rattle.std.proofs.Common.{◌≡◌, ℕ, suc, slice_index_or, ◌+◌, ◌<◌, sym, ap, ◌∙◌, List, [], ◌∷◌, ◌++◌, length, take, drop, arith}
use Rattle.std.proofs.lemmas.List.{length-drop, take_all, drop_all}
use Rattle.krb_schema.specs.declared.item.Item.{Item}
use Rattle.krb_schema.specs.Rules.{AreBroken, Obeys, all_told, obedient, offending}

pub none_behind : (octets : List ℕ) (offset size : ℕ) → length octets < offset → take size (drop offset octets) ≡ drop (length octets) octets
none_behind octets offset size less =
    take_all size (drop offset octets) (omega (arith, less, length-drop offset octets)) ∙ drop_all offset octets (omega (arith, less)) ∙ sym (drop_all (length octets) octets (omega arith))

pub all_taken : (octets : List ℕ) (size : ℕ) → length octets < size → take size octets ≡ octets
all_taken octets size less = take_all size octets (omega (arith, less))

pub told_behind : (octets : List ℕ) (xs bs : List Item) (i : Item) → Obeys octets i → AreBroken octets xs bs → AreBroken octets (xs ++ i ∷ []) bs
told_behind octets xs bs i so all_told = obedient i [] [] so all_told
told_behind octets xs bs i so (obedient j js cs right r) = obedient j (js ++ i ∷ []) cs right (told_behind octets js cs i so r)
told_behind octets xs bs i so (offending j js cs wrong r) = offending j (js ++ i ∷ []) cs wrong (told_behind octets js cs i so r)

pub broken_behind : (octets : List ℕ) (xs bs : List Item) (i : Item) → (Obeys octets i → ⊥) → AreBroken octets xs bs → AreBroken octets (xs ++ i ∷ []) (bs ++ i ∷ [])
broken_behind octets xs bs i so all_told = offending i [] [] so all_told
broken_behind octets xs bs i so (obedient j js cs right r) = obedient j (js ++ i ∷ []) (cs ++ i ∷ []) right (broken_behind octets js cs i so r)
broken_behind octets xs bs i so (offending j js cs wrong r) = offending j (js ++ i ∷ []) (cs ++ i ∷ []) wrong (broken_behind octets js cs i so r)

one_more_taken : (items : List Item) (passed : ℕ) (d : Item) → passed < length items → take (passed + 1) items ≡ take passed items ++ slice_index_or items passed d ∷ []
one_more_taken items passed d less =
    let n : passed + 1 ≡ suc passed = omega arith in
    ap (λ (m : ℕ). take m items) n ∙ take-suc items passed d less

-- one item more
pub told_more : (octets : List ℕ) (items bs cs : List Item) (passed : ℕ) (d : Item) → passed < length items → cs ≡ bs → Obeys octets (slice_index_or items passed d)
    → AreBroken octets (take passed items) bs → AreBroken octets (take (passed + 1) items) cs
told_more octets items bs cs passed d less e so r =
    rw (one_more_taken items passed d less, e) (told_behind octets (take passed items) bs (slice_index_or items passed d) so r)

pub broken_more : (octets : List ℕ) (items bs cs : List Item) (passed : ℕ) (d : Item) → passed < length items → cs ≡ bs ++ slice_index_or items passed d ∷ []
    → (Obeys octets (slice_index_or items passed d) → ⊥) → AreBroken octets (take passed items) bs → AreBroken octets (take (passed + 1) items) cs
broken_more octets items bs cs passed d less e so r =
    rw (one_more_taken items passed d less, e) (broken_behind octets (take passed items) bs (slice_index_or items passed d) so r)
