-- Whole messages (MS-NEGOEX 2.2.6): a fixed part, octets between, and the payload.
use Rattle.std.proofs.Common.{◌≡◌, ℕ, ◌+◌, List, [], ◌∷◌, ◌++◌, length, drop, sym, ap, ◌∙◌, append_assoc, length-append, arith}
use Rattle.std.proofs.lemmas.List.{drop_at, append-nil}
use Rattle.krb_negoex.specs.Layouts.{Layout}
use Rattle.krb_negoex.specs.declared.header.MessageType.{MessageType}
use Rattle.krb_negoex.specs.declared.header.MessageHeader.{MessageHeader}

-- the header of a new message (MS-NEGOEX 2.2.6.2)
abbrev pub new_header : MessageType → List ℕ → ℕ → ℕ → ℕ → MessageHeader
new_header kind id number prefix size = record {
  signature = 0x535458454f47454e;
  message_type = kind;
  sequence_num = number;
  header_len = prefix;
  message_len = size;
  conversation_id = id;
}

-- what a `Verify` has between its fixed part and its payload (MS-NEGOEX 2.2.6.5)
abbrev pub four_zeros : List ℕ
four_zeros = 0 ∷ 0 ∷ 0 ∷ 0 ∷ []

-- the octets of a message whose payload starts at o
abbrev pub written : {A : Type 0} → Layout A → ℕ → List ℕ → A → List ℕ
written l o between v = l.fixed o v ++ (between ++ l.payload o v)

-- how many octets that are, where the fixed part and what is between fill the octets before o
pub written_length : {A : Type 0} (l : Layout A) (o : ℕ) (between : List ℕ) (v : A) → l.width + length between ≡ o → length (written l o between v) ≡ o + l.payload_size v
written_length l o between v e =
    let w = l.fixed_length o v in
    let p = l.payload_length o v in
    let a = length-append between (l.payload o v) in
    let b = length-append (l.fixed o v) (between ++ l.payload o v) in
    omega arith

-- a value that has a place, and whose octets are read as it alone
pub record HasOneReading {A : Type 0} (l : Layout A) (o : ℕ) (between : List ℕ) (v : A) : Type 0 where
  pub laid : l.laid o v
  pub size : length (written l o between v) ≡ o + l.payload_size v
  pub is : l.part (written l o between v) (written l o between v) v
  pub alone : (w : A) → l.part (written l o between v) (written l o between v) w → l.same w v

-- what is laid after its fixed part is read as that value alone
pub one_reading : {A : Type 0} (l : Layout A) (o : ℕ) (between : List ℕ) (v : A) → l.readable v → l.laid o v → l.width + length between ≡ o → HasOneReading l o between v
one_reading {A = A} l o between v r d e =
    let m = l.fixed o v ++ (between ++ l.payload o v) in
    let same : l.fixed o v ++ (between ++ l.payload o v) ≡ (l.fixed o v ++ between) ++ l.payload o v = sym (append_assoc (l.fixed o v) between (l.payload o v)) in
    let w = l.fixed_length o v in
    let p = l.payload_length o v in
    let a = length-append (l.fixed o v) between in
    let b = length-append (l.fixed o v ++ between) (l.payload o v) in
    let at : length (l.fixed o v ++ between) ≡ o = omega arith in
    let here : drop o (l.fixed o v ++ (between ++ l.payload o v)) ≡ l.payload o v ++ [] =
    ap (drop o) same ∙ drop_at (l.fixed o v ++ between) (l.payload o v) o at ∙ sym (append-nil (l.payload o v)) in
    let c = ap length same in
    let read = l.reads_back o v (l.fixed o v ++ (between ++ l.payload o v)) (between ++ l.payload o v) [] r d (omega arith) here in
    record {
      laid = d;
      size = omega arith;
      is = read;
      alone = λ (u : A) x. l.one_part (l.fixed o v ++ (between ++ l.payload o v)) (l.fixed o v ++ (between ++ l.payload o v)) u v x read;
    }
