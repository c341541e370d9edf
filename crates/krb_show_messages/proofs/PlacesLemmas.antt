-- Places of formats that are no DER.
use Rattle.std.proofs.Common.{◌≡◌, ℕ, suc, ◌+◌, ◌*◌, ◌<◌, ◌^◌, Bool, List, [], ◌∷◌, ◌++◌, length, get_or, take, sym, ap, ◌∙◌, Option, arith}
use Rattle.std.proofs.lemmas.Grind.{common_steps}
use Rattle.std.proofs.lemmas.List.{append_assoc, append-nil}
use Rattle.byteorder.specs.Numbers.{little_from-lt}
use Rattle.krb_message_fields.specs.declared.places.place.Place.{Place}
use Rattle.krb_pac.specs.Numbered.{NumberedBuffer, NumberedPacIs}
use Rattle.krb_show.proofs.PlaceLists.{behind_both}
use Rattle.krb_show_messages.proofs.Plain.{taken_item}
use Rattle.krb_show_messages.specs.Places.{buffer_places, each_places}

-- a PAC has fewer buffers than a number of four octets can say
pub few : (octets : List ℕ) (pac : List NumberedBuffer) → ((k : ℕ) → get_or octets k 0 < 256) → NumberedPacIs octets pac → length pac < 2 ^ 32
few octets pac small is = omega (arith, little_from-lt 0 4 octets small, is.count)

-- one more buffer behind the others
each_more : (h : Bool) (i : ℕ) (ps : List NumberedBuffer) (p : NumberedBuffer)
    → each_places h i (ps ++ p ∷ []) ≡ each_places h i ps ++ buffer_places h (8 + 16 * (i + length ps)) p
each_more h i [] p =
    let same : i ≡ i + length {A = NumberedBuffer} [] = omega arith in
    append-nil (buffer_places h (8 + 16 * i) p) ∙ ap (λ (n : ℕ). buffer_places h (8 + 16 * n) p) same
each_more h i (q ∷ qs) p =
    let same : i + length (q ∷ qs) ≡ suc i + length qs = omega arith in
    ap (λ (l : List (Option Place)). buffer_places h (8 + 16 * i) q ++ l) (each_more h (suc i) qs p)
    ∙ sym (append_assoc (buffer_places h (8 + 16 * i) q) (each_places h (suc i) qs) (buffer_places h (8 + 16 * (suc i + length qs)) p))
    ∙ ap (λ (n : ℕ). (buffer_places h (8 + 16 * i) q ++ each_places h (suc i) qs) ++ buffer_places h (8 + 16 * n) p) (sym same)

-- the places of the first buffers, and of one more
pub buffer_more : (h : Bool) (ps : List NumberedBuffer) (n at : ℕ) (p : NumberedBuffer) (old between new : List (Option Place))
    → n < length ps → p ≡ get_or ps n p → at ≡ 8 + 16 * n → between ≡ old ++ each_places h 0 (take n ps) → new ≡ between ++ buffer_places h at p
    → new ≡ old ++ each_places h 0 (take (n + 1) ps)
buffer_more h ps n at p old between new room is here e f =
    let many : length (take n ps) ≡ n = grind (arith, common_steps, room) in
    let place : at ≡ 8 + 16 * (0 + length (take n ps)) = omega (arith, here, many) in
    behind_both old (each_places h 0 (take n ps)) (buffer_places h at p) between new e f
    ∙ ap (λ (k : ℕ). old ++ (each_places h 0 (take n ps) ++ buffer_places h k p)) place
    ∙ ap (λ (l : List (Option Place)). old ++ l) (sym (each_more h 0 (take n ps) p))
    ∙ ap (λ (l : List NumberedBuffer). old ++ each_places h 0 l) (sym (taken_item ps n p room is))
