-- What is told of all mechanisms, one after another.
use Rattle.std.proofs.Common.{◌≡◌, ◌<◌, ◌≤◌, ◌+◌, ◌++◌, ◌∙◌, ℕ, zero, suc, List, [], ◌∷◌, Some, length, map, take, get_or, arith, ap, sym}
use Rattle.std.specs.Prelude.{slice_get}
use Rattle.std.proofs.lemmas.List.{length_push, map_push, take_all, take_more}
use Rattle.std.proofs.lemmas.Option.{get_or_from_slice_get, slice_get-get_or, slice_get_within}
use Rattle.krb_spnego.specs.declared.told.Told.{Told}
use Rattle.krb_c_negotiation.specs.Mechanisms.{Content, Words, content_in, contents, told_content}
use Rattle.krb_c_negotiation.specs.declared.mechanisms.Spoken.{Spoken}
use Rattle.krb_c_negotiation.specs.declared.records.MechanismRecord.{MechanismRecord}
use Rattle.krb_c_negotiation.specs.declared.records.NegotiationRecord.{NegotiationRecord}

module _ (side : NegotiationRecord) (spoken : Spoken) (tale : Words) where
  contents-get : (lists : List (List (List ℕ))) (mechanisms : List MechanismRecord) (i : ℕ) (names : List (List ℕ)) (mechanism : MechanismRecord)
      → slice_get lists i ≡ Some names → slice_get mechanisms i ≡ Some mechanism
      → slice_get (contents side spoken tale lists mechanisms) i ≡ Some (content_in side spoken tale names mechanism)
  contents-get [] mechanisms i names mechanism is_list is_record = cc
  contents-get (x ∷ xs) [] i names mechanism is_list is_record = cc
  contents-get (x ∷ xs) (y ∷ ys) zero names mechanism is_list is_record = cc
  contents-get (x ∷ xs) (y ∷ ys) (suc i) names mechanism is_list is_record = contents-get xs ys i names mechanism is_list is_record

  length-contents : (lists : List (List (List ℕ))) (mechanisms : List MechanismRecord)
      → length (contents side spoken tale lists mechanisms) ≤ length mechanisms
  length-contents [] mechanisms = omega arith
  length-contents (x ∷ xs) [] = omega arith
  length-contents (x ∷ xs) (y ∷ ys) = let h = length-contents xs ys in omega (arith, h)

  -- all of them
  pub contents-all : (lists : List (List (List ℕ))) (mechanisms : List MechanismRecord) (i : ℕ) → length mechanisms ≤ i
      → take i (contents side spoken tale lists mechanisms) ≡ contents side spoken tale lists mechanisms
  contents-all lists mechanisms i past = let h = length-contents lists mechanisms in take_all i _ (omega (arith, h))

  -- one more
  contents-more : (lists : List (List (List ℕ))) (mechanisms : List MechanismRecord) (i : ℕ) (names : List (List ℕ)) (d : MechanismRecord)
      → i < length mechanisms → slice_get lists i ≡ Some names
      → take (i + 1) (contents side spoken tale lists mechanisms)
      ≡ take i (contents side spoken tale lists mechanisms) ++ content_in side spoken tale names (get_or mechanisms i d) ∷ []
  contents-more lists mechanisms i names d below is_list =
      let x : Content = content_in side spoken tale names (get_or mechanisms i d) in
      let full : List Content = contents side spoken tale lists mechanisms in
      let is = contents-get lists mechanisms i names (get_or mechanisms i d) is_list (slice_get-get_or mechanisms i d below) in
      take_more full i x (slice_get_within full i x is) ∙ ap (λ y. take i full ++ y ∷ []) (get_or_from_slice_get full i x x is)

  pub pushed : (lists : List (List (List ℕ))) (mechanisms : List MechanismRecord) (i : ℕ) (names : List (List ℕ)) (d : MechanismRecord)
      (all new : List Told) (told : Told) → i < length mechanisms → slice_get lists i ≡ Some names
      → map told_content all ≡ take i (contents side spoken tale lists mechanisms) → length all ≡ i → new ≡ all ++ told ∷ []
      → told_content told ≡ content_in side spoken tale names (get_or mechanisms i d)
      → (map told_content new ≡ take (i + 1) (contents side spoken tale lists mechanisms)) × (length new ≡ i + 1)
  pushed lists mechanisms i names d all new told below is_list mapped len is content =
      let full : List Content = contents side spoken tale lists mechanisms in (
        ap (map told_content) is ∙ map_push told_content all told ∙ ap (λ xs. xs ++ told_content told ∷ []) mapped
            ∙ ap (λ x. take i full ++ x ∷ []) content ∙ sym (contents-more lists mechanisms i names d below is_list),
        ap length is ∙ length_push all told ∙ ap (λ n. n + 1) len,
      )
