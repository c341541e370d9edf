-- A message that is decoded and its view are of one reading.
use Rattle.std.proofs.Common.{◌≡◌, ℕ, ◌+◌, ◌*◌, ◌<◌, inl, inr, ⊎_elim, List, [], ◌∷◌, length, map, drop, Result, Ok, Err, IfOk, IfErr, refl, sym, ap, ◌∙◌, subst, zero, suc}
use Rattle.std.specs.declared.io.Error.{Error}
use Rattle.byteorder.specs.Endian.{little_number}
use Rattle.krb_negoex.specs.Layouts.{Layout}
use Rattle.krb_negoex.specs.Parts.{Elements, VectorPart, SameAll}
use Rattle.krb_negoex.specs.Rejected.{VectorRejected}
use Rattle.krb_negoex.specs.Types.{type_code}
use Rattle.krb_negoex.specs.Wire.{header_layout, extension_layout, nego_layout, exchange_layout, verify_layout}
use Rattle.krb_negoex.specs.View.{ExtensionSeen, ChecksumSeen, NegoSeen, ExchangeSeen, VerifySeen, IsNotMemory, AreAlike, extension_seen, nego_seen, exchange_seen, verify_seen, extension_view_layout, checksum_view_layout, nego_view_layout, exchange_view_layout, verify_view_layout}
use Rattle.krb_negoex.specs.declared.extension.Extension.{Extension}
use Rattle.krb_negoex.specs.declared.nego.Nego.{Nego}
use Rattle.krb_negoex.specs.declared.header.MessageHeader.{MessageHeader}
use Rattle.krb_negoex.specs.declared.header.MessageType.{MessageType}
use Rattle.krb_negoex.specs.declared.header.MessageType.TheVariants as kinds
use Rattle.krb_negoex.specs.declared.exchange.Exchange.{Exchange}
use Rattle.krb_negoex.specs.declared.verify.Verify.{Verify}

named : ℕ → MessageType
named zero = kinds.InitiatorNego
named (suc zero) = kinds.AcceptorNego
named (suc (suc zero)) = kinds.InitiatorMetaData
named (suc (suc (suc zero))) = kinds.AcceptorMetaData
named (suc (suc (suc (suc zero)))) = kinds.Challenge
named (suc (suc (suc (suc (suc zero))))) = kinds.ApRequest
named (suc (suc (suc (suc (suc (suc zero)))))) = kinds.Verify
named n = kinds.Alert

named_code : (k : MessageType) → named (type_code k) ≡ k
unfolding named
named_code kinds.InitiatorNego = refl
named_code kinds.AcceptorNego = refl
named_code kinds.InitiatorMetaData = refl
named_code kinds.AcceptorMetaData = refl
named_code kinds.Challenge = refl
named_code kinds.ApRequest = refl
named_code kinds.Verify = refl
named_code kinds.Alert = refl

same_kind : (k j : MessageType) → type_code k ≡ type_code j → k ≡ j
same_kind k j e = sym (named_code k) ∙ ap named e ∙ named_code j

same_list : {A : Type 0} (same : A → A → Type 0) → ((v w : A) → same v w → v ≡ w) → (vs ws : List A) → SameAll same vs ws → vs ≡ ws
same_list same one [] [] s = refl
same_list same one [] (w ∷ ws) s = absurd s
same_list same one (v ∷ vs) [] s = absurd s
same_list {A = A} same one (v ∷ vs) (w ∷ ws) s = ap (λ (z : A). z ∷ vs) (one v w s.0) ∙ ap (λ (z : List A). w ∷ z) (same_list same one vs ws s.1)

same_octets : (vs ws : List ℕ) → SameAll (λ (v w : ℕ). v ≡ w) vs ws → vs ≡ ws
same_octets = same_list (λ (v w : ℕ). v ≡ w) (λ v w e. e)

same_header : (v w : MessageHeader) → header_layout.same v w → v ≡ w
same_header v w s =
    let mk : ℕ → MessageType → ℕ → ℕ → ℕ → List ℕ → MessageHeader =
    λ a k n p l i. record { signature = a; message_type = k; sequence_num = n; header_len = p; message_len = l; conversation_id = i } in
    ap (λ (z : ℕ). mk z v.message_type v.sequence_num v.header_len v.message_len v.conversation_id) s.0
    ∙ ap (λ (z : MessageType). mk w.signature z v.sequence_num v.header_len v.message_len v.conversation_id) (same_kind v.message_type w.message_type s.1.0)
    ∙ ap (λ (z : ℕ). mk w.signature w.message_type z v.header_len v.message_len v.conversation_id) s.1.1.0
    ∙ ap (λ (z : ℕ). mk w.signature w.message_type w.sequence_num z v.message_len v.conversation_id) s.1.1.1.0
    ∙ ap (λ (z : ℕ). mk w.signature w.message_type w.sequence_num w.header_len z v.conversation_id) s.1.1.1.1.0
    ∙ ap (λ (z : List ℕ). mk w.signature w.message_type w.sequence_num w.header_len w.message_len z) s.1.1.1.1.1

same_extension : (v w : ExtensionSeen) → extension_view_layout.same v w → v ≡ w
same_extension v w s =
    let mk : ℕ → List ℕ → ExtensionSeen = λ t o. record { extension_type = t; extension_value = o } in
    ap (λ (z : ℕ). mk z v.extension_value) s.0 ∙ ap (mk w.extension_type) (same_octets v.extension_value w.extension_value s.1)

same_checksum : (v w : ChecksumSeen) → checksum_view_layout.same v w → v ≡ w
same_checksum v w s =
    let mk : ℕ → ℕ → ℕ → List ℕ → ChecksumSeen = λ h n t o. record { header_len = h; checksum_scheme = n; checksum_type = t; checksum_value = o } in
    ap (λ (z : ℕ). mk z v.checksum_scheme v.checksum_type v.checksum_value) s.0 ∙ ap (λ (z : ℕ). mk w.header_len z v.checksum_type v.checksum_value) s.1.0
    ∙ ap (λ (z : ℕ). mk w.header_len w.checksum_scheme z v.checksum_value) s.1.1.0
    ∙ ap (mk w.header_len w.checksum_scheme w.checksum_type) (same_octets v.checksum_value w.checksum_value s.1.1.1)

same_exchange : (v w : ExchangeSeen) → exchange_view_layout.same v w → v ≡ w
same_exchange v w s =
    let mk : MessageHeader → List ℕ → List ℕ → ExchangeSeen = λ h i o. record { header = h; auth_scheme = i; exchange = o } in
    ap (λ (z : MessageHeader). mk z v.auth_scheme v.exchange) (same_header v.header w.header s.0) ∙ ap (λ (z : List ℕ). mk w.header z v.exchange) s.1.0
    ∙ ap (mk w.header w.auth_scheme) (same_octets v.exchange w.exchange s.1.1)

same_verify : (v w : VerifySeen) → verify_view_layout.same v w → v ≡ w
same_verify v w s =
    let mk : MessageHeader → List ℕ → ChecksumSeen → VerifySeen = λ h i o. record { header = h; auth_scheme = i; checksum = o } in
    ap (λ (z : MessageHeader). mk z v.auth_scheme v.checksum) (same_header v.header w.header s.0) ∙ ap (λ (z : List ℕ). mk w.header z v.checksum) s.1.0
    ∙ ap (mk w.header w.auth_scheme) (same_checksum v.checksum w.checksum s.1.1)

same_nego : (v w : NegoSeen) → nego_view_layout.same v w → v ≡ w
same_nego v w s =
    let mk : MessageHeader → List ℕ → ℕ → List (List ℕ) → List ExtensionSeen → NegoSeen =
    λ h r n i o. record { header = h; random = r; protocol_version = n; auth_schemes = i; extensions = o } in
    ap (λ (z : MessageHeader). mk z v.random v.protocol_version v.auth_schemes v.extensions) (same_header v.header w.header s.0)
    ∙ ap (λ (z : List ℕ). mk w.header z v.protocol_version v.auth_schemes v.extensions) s.1.0
    ∙ ap (λ (z : ℕ). mk w.header w.random z v.auth_schemes v.extensions) s.1.1.0
    ∙ ap (λ (z : List (List ℕ)). mk w.header w.random w.protocol_version z v.extensions) (same_list (λ (x y : List ℕ). x ≡ y) (λ x y e. e) v.auth_schemes w.auth_schemes s.1.1.1.0)
    ∙ ap (mk w.header w.random w.protocol_version w.auth_schemes) (same_list extension_view_layout.same same_extension v.extensions w.extensions s.1.1.1.1)

length_seen : (vs : List Extension) → length (map extension_seen vs) ≡ length vs
length_seen [] = refl
length_seen (v ∷ vs) = ap suc (length_seen vs)

elements_seen : (m : List ℕ) (k : ℕ) (vs : List Extension) → Elements extension_layout.part 12 m k vs → Elements extension_view_layout.part 12 m k (map extension_seen vs)
elements_seen m k [] x = tt
elements_seen m k (v ∷ vs) x = (x.0, elements_seen m (k + 12) vs x.1)

vector_seen : (f m : List ℕ) (vs : List Extension) → VectorPart extension_layout.part 12 f m vs → VectorPart extension_view_layout.part 12 f m (map extension_seen vs)
vector_seen f m vs x = record { room = x.room; count = x.count ∙ sym (length_seen vs); inside = x.inside; elements = elements_seen m (little_number 4 f) vs x.elements }

rejected_seen : (f m : List ℕ) (e : Error) → VectorRejected extension_layout.part extension_layout.rejects 12 f m e → VectorRejected extension_view_layout.part extension_view_layout.rejects 12 f m e
rejected_seen f m e r = ⊎_elim (λ h. inl h) (λ h. inr (⊎_elim (λ k. inl k) (λ k. inr (⊎_elim (λ i. inl i) (λ i. inr (record {
  room = i.room;
  inside = i.inside;
  before = map extension_seen i.before;
  more = subst (λ (n : ℕ). n < little_number 4 (drop 4 f)) (sym (length_seen i.before)) i.more;
  elements = elements_seen m (little_number 4 f) i.before i.elements;
  error = subst (λ (n : ℕ). extension_view_layout.rejects (drop (little_number 4 f + 12 * n) m) m e) (sym (length_seen i.before)) i.error;
})) k)) h)) r

nego_part : (f m : List ℕ) (v : Nego) → nego_layout.part f m v → nego_view_layout.part f m (nego_seen v)
nego_part f m v x = (x.0, (x.1.0, (x.1.1.0, (x.1.1.1.0, vector_seen (drop 8 (drop 8 (drop 32 (drop 40 f)))) m v.extensions.items x.1.1.1.1))))

nego_rejected : (f m : List ℕ) (e : Error) → nego_layout.rejects f m e → nego_view_layout.rejects f m e
nego_rejected f m e r = ⊎_elim (λ h. inl h) (λ h. inr (
  h.0,
  h.1,
  ⊎_elim (λ i. inl i) (λ i. inr (
    i.0,
    i.1,
    ⊎_elim (λ j. inl j) (λ j. inr (
      j.0,
      j.1,
      ⊎_elim (λ k. inl k) (λ k. inr (k.0.items, k.1, rejected_seen (drop 8 (drop 8 (drop 32 (drop 40 f)))) m e k.2)) j.2,
    )) i.2,
  )) h.2,
)) r

alike : {A B : Type 0} (k : Layout A) (l : Layout B) (see : A → B) → ((f m : List ℕ) (v : A) → k.part f m v → l.part f m (see v)) → ((f m : List ℕ) (e : Error) → k.rejects f m e → l.rejects f m e)
    → ((v w : B) → l.same v w → v ≡ w) → (m : List ℕ) (read : Result A Error) (view : Result B Error) → IfOk read (k.part m m) → IfErr read (k.rejects m m) → IfOk view (l.part m m) → IfErr view (l.rejects m m)
    → IfErr view IsNotMemory → AreAlike see read view
alike k l see to rejected one m (Ok v) (Ok w) x r y s n = one (see v) w (l.one_part m m (see v) w (to m m v x) y)
alike k l see to rejected one m (Ok v) (Err f) x r y s n = n (l.no_part m m f (see v) s (to m m v x))
alike k l see to rejected one m (Err e) (Ok w) x r y s n = l.no_part m m e w (rejected m m e r) y
alike k l see to rejected one m (Err e) (Err f) x r y s n = ⊎_elim (λ h. inl h) (⊎_elim (λ h. absurd (n h)) (λ h. inr h)) (l.one_error m m e f (rejected m m e r) s)

pub nego_alike : (m : List ℕ) (read : Result Nego Error) (view : Result NegoSeen Error) → IfOk read (nego_layout.part m m) → IfErr read (nego_layout.rejects m m)
    → IfOk view (nego_view_layout.part m m) → IfErr view (nego_view_layout.rejects m m) → IfErr view IsNotMemory → AreAlike nego_seen read view
nego_alike = alike nego_layout nego_view_layout nego_seen nego_part nego_rejected same_nego

pub exchange_alike : (m : List ℕ) (read : Result Exchange Error) (view : Result ExchangeSeen Error) → IfOk read (exchange_layout.part m m) → IfErr read (exchange_layout.rejects m m)
    → IfOk view (exchange_view_layout.part m m) → IfErr view (exchange_view_layout.rejects m m) → IfErr view IsNotMemory → AreAlike exchange_seen read view
exchange_alike = alike exchange_layout exchange_view_layout exchange_seen (λ f m v x. x) (λ f m e r. r) same_exchange

pub verify_alike : (m : List ℕ) (read : Result Verify Error) (view : Result VerifySeen Error) → IfOk read (verify_layout.part m m) → IfErr read (verify_layout.rejects m m)
    → IfOk view (verify_view_layout.part m m) → IfErr view (verify_view_layout.rejects m m) → IfErr view IsNotMemory → AreAlike verify_seen read view
verify_alike = alike verify_layout verify_view_layout verify_seen (λ f m v x. x) (λ f m e r. r) same_verify
