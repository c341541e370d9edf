-- Where target-domain stands in a KDC-PROXY-MESSAGE.
use Rattle.std.proofs.Common.{◌≡◌, ℕ, List, [], ◌∷◌, ◌++◌, Some, length, take, drop, refl, sym, ap, ◌∙◌, subst, append_assoc}
use Rattle.std.proofs.lemmas.List.{append-nil}
use Rattle.krb_der_core.specs.Encoding.{optional}
use Rattle.krb_der.specs.Asn1.{explicit, general_string, integer, octet_string, sequence}
use Rattle.krb_message_fields.specs.declared.places.place.Place.{Place}
use Rattle.krb_message_fields.specs.Contents.{Pins, Slot, may, must, optional_map}
use Rattle.krb_message_fields.specs.FieldPaths.{text_path}
use Rattle.krb_message_fields.specs.Paths.{IsPlace, Leads, LeadsNowhere}
use Rattle.krb_message_fields.specs.PathLaws.{one_end}
use Rattle.krb_message_fields.specs.Places.{octets_at}
use Rattle.krb_message_fields.specs.TypeLaws.{in_same, pins_in_sequence, pins_primitive}
use Rattle.krb_messages.specs.declared.messages.proxy.KdcProxyMessage.{KdcProxyMessage}
use Rattle.krb_c_calls.specs.Posted.{IsDomainAt, domain_path}

abbrev slots : KdcProxyMessage → List Slot
slots v = must 160 (octet_string v.kerb_message) ∷ may 161 general_string v.target_domain.0 ∷ may 162 integer v.dclocator_hint.0 ∷ []

abbrev pub encoding : KdcProxyMessage → List ℕ
encoding v = sequence (explicit 0 (octet_string v.kerb_message) ++ optional (λ x. explicit 1 (general_string x)) v.target_domain.0
    ++ optional (λ x. explicit 2 (integer x)) v.dclocator_hint.0)

domain_pins : (v : KdcProxyMessage) → Pins domain_path (encoding v) v.target_domain.0
domain_pins v =
    pins_in_sequence 1 text_path (slots v) _ v.target_domain.0 (simp (append_assoc, append-nil, optional_map)) refl
    (in_same text_path general_string v.target_domain.0 (λ s. pins_primitive 27 s))

-- the octets of the one end
domain_leads : (v : KdcProxyMessage) (domain octets : List ℕ) → octets ≡ encoding v → v.target_domain.0 ≡ Some domain → Pins domain_path octets (Some domain)
domain_leads v domain octets e there =
    let p = subst (λ (l : List ℕ). Pins domain_path l v.target_domain.0) (sym e) (domain_pins v) in
    subst (Pins domain_path octets) there p

pub domain_at : (v : KdcProxyMessage) (domain octets : List ℕ) (place : Place) → octets ≡ encoding v → v.target_domain.0 ≡ Some domain → IsPlace domain_path octets place
    → place.size ≡ length (octets_at octets place) → take place.size (drop place.offset octets) ≡ octets_at octets place → IsDomainAt domain octets place.offset place.size
domain_at v domain octets place e there at count shown =
    let p = domain_leads v domain octets e there in
    let same = (one_end domain_path octets p.0 place.offset domain (octets_at octets place) p.1 at.leads).1 in
    (subst (λ (l : List ℕ). Leads domain_path octets place.offset l) (sym same) at.leads, count ∙ ap length (sym same), shown ∙ sym same)

pub domain_there : (v : KdcProxyMessage) (domain octets : List ℕ) → octets ≡ encoding v → v.target_domain.0 ≡ Some domain → LeadsNowhere domain_path octets → ⊥
domain_there v domain octets e there none = let p = domain_leads v domain octets e there in none p.0 domain p.1
