-- Where kerb-message stands in a KDC-PROXY-MESSAGE.
use Rattle.std.proofs.Common.{◌≡◌, ℕ, ◌+◌, ◌≤◌, List, [], ◌∷◌, ◌++◌, Some, length, take, drop, refl, sym, ap, subst, append_assoc, arith}
use Rattle.std.proofs.lemmas.List.{append-nil, length-drop, length-take-le}
use Rattle.krb_der_core.specs.Encoding.{optional}
use Rattle.krb_der.specs.Asn1.{explicit, general_string, integer, octet_string, sequence}
use Rattle.krb_message_fields.specs.declared.places.place.Place.{Place}
use Rattle.krb_message_fields.specs.Contents.{Pins, Slot, may, must, optional_map}
use Rattle.krb_message_fields.specs.Paths.{IsPlace, Leads, LeadsNowhere}
use Rattle.krb_message_fields.specs.PathLaws.{one_end}
use Rattle.krb_message_fields.specs.Places.{octets_at}
use Rattle.krb_message_fields.specs.FieldPaths.{octets_path}
use Rattle.krb_message_fields.specs.TypeLaws.{pins_in_sequence, pins_primitive}
use Rattle.krb_messages.specs.declared.messages.proxy.KdcProxyMessage.{KdcProxyMessage}
use Rattle.krb_kdc_proxy.specs.Standing.{kerb_message_path}

abbrev slots : KdcProxyMessage → List Slot
slots v = must 160 (octet_string v.kerb_message) ∷ may 161 general_string v.target_domain.0 ∷ may 162 integer v.dclocator_hint.0 ∷ []

abbrev pub encoding : KdcProxyMessage → List ℕ
encoding v = sequence (explicit 0 (octet_string v.kerb_message) ++ optional (λ x. explicit 1 (general_string x)) v.target_domain.0
    ++ optional (λ x. explicit 2 (integer x)) v.dclocator_hint.0)

message_pins : (v : KdcProxyMessage) → Pins kerb_message_path (encoding v) (Some v.kerb_message)
message_pins v = pins_in_sequence 0 octets_path (slots v) _ (Some v.kerb_message) (simp (append_assoc, append-nil, optional_map)) refl (pins_primitive 4 v.kerb_message)

pub message_at : (v : KdcProxyMessage) (octets : List ℕ) (place : Place) → octets ≡ encoding v → IsPlace kerb_message_path octets place → octets_at octets place ≡ v.kerb_message
message_at v octets place e at =
    let p = subst (λ (l : List ℕ). Pins kerb_message_path l (Some v.kerb_message)) (sym e) (message_pins v) in
    sym (one_end kerb_message_path octets p.0 place.offset v.kerb_message (octets_at octets place) p.1 at.leads).1

pub message_there : (v : KdcProxyMessage) (octets : List ℕ) → octets ≡ encoding v → LeadsNowhere kerb_message_path octets → ⊥
message_there v octets e none =
    let p = subst (λ (l : List ℕ). Pins kerb_message_path l (Some v.kerb_message)) (sym e) (message_pins v) in
    none p.0 v.kerb_message p.1

pub leads_there : (octets : List ℕ) (place : Place) (shown : List ℕ) → shown ≡ octets_at octets place → IsPlace kerb_message_path octets place
    → Leads kerb_message_path octets place.offset shown
leads_there octets place shown same at = subst (Leads kerb_message_path octets place.offset) (sym same) at.leads

-- what stands from the front of a place to its end
pub within_place : (octets : List ℕ) (offset size n : ℕ) → offset + size ≤ length octets → n ≡ size
    → (take n (drop offset octets) ≡ take size (drop offset octets)) × (take (length (take n (drop offset octets))) (drop offset octets) ≡ take n (drop offset octets))
    × (offset + length (take n (drop offset octets)) ≤ length octets)
within_place octets offset size n inside same =
    let long : length (take n (drop offset octets)) ≡ n = length-take-le n (drop offset octets) (omega (arith, same, inside, length-drop offset octets)) in
    (ap (λ (k : ℕ). take k (drop offset octets)) same, ap (λ (k : ℕ). take k (drop offset octets)) long, omega (arith, long, same, inside))
