-- Names beside numbers and flags.
use Rattle.std.proofs.Common.{◌≡◌, ◌⊎◌, ℕ, suc, zero, ◌<◌, ℤ, Bool, true, false, ◌&&◌, inl, inr, refl, sym, ap, subst, ◌∙◌, List, [], ◌∷◌, ◌++◌, length, get_or, Option, None, Some, arith}
use Rattle.krb_registry.specs.declared.kind.Kind.{Kind}
use Rattle.krb_registry.specs.declared.kind.Kind.TheVariants.{EncryptionType, ChecksumType, NameType, MessageType, ErrorCode, PaDataType, AuthorizationDataType, AddressType}
use Rattle.krb_registry.specs.declared.kind.Kind.TheVariants.{TransitedEncodingType, LastRequestType, TicketFlag, KdcOption, ApOption, KeyUsage, PacBufferType, GssFlag}
use Rattle.krb_registry.specs.declared.kind.Kind.TheVariants.{NegotiationState, ContextFlag, TokenFlag}
use Rattle.krb_registry.specs.Names.{table, IsRow}
use Rattle.krb_show_text.specs.declared.escape.Style.TheVariants as style
use Rattle.krb_show.specs.Leaves.{IsNote, IsFlagsNote, AreFlags, IsIdentifierNote}
use Rattle.krb_show_text.specs.Text.{escaped}
use Rattle.krb_show_row_laws.specs.Telling.{all_of, other_than, is_word_octet, begins_as_octets, IsBeside, IsNameBeside}
use Rattle.krb_show_row_laws.proofs.SplitLaws.{and_left, and_right}
use Rattle.krb_show_row_laws.proofs.WordLaws.{word_itself, of_other}

-- ---- every name is a word that does not begin as `octets` does

abbrev pub every : (ℤ × List ℕ → Bool) → List (ℤ × List ℕ) → Bool
every test [] = true
every test (row ∷ rows) = test row && every test rows

at_each : (test : ℤ × List ℕ → Bool) (rows : List (ℤ × List ℕ)) (k : ℕ) (other : ℤ × List ℕ) → every test rows ≡ true → k < length rows
    → test (get_or rows k other) ≡ true
at_each test [] k other h lt = absurd (omega arith)
at_each test (row ∷ rows) zero other h lt = and_left (test row) (every test rows) h
at_each test (row ∷ rows) (suc k) other h lt = at_each test rows k other (and_right (test row) (every test rows) h) (omega arith)

abbrev pub names_well : ℤ × List ℕ → Bool
names_well row = all_of is_word_octet row.1 && other_than (begins_as_octets row.1)

all_well : (kind : Kind) → every names_well (table kind) ≡ true
unfolding table
all_well EncryptionType = refl
all_well ChecksumType = refl
all_well NameType = refl
all_well MessageType = refl
all_well ErrorCode = refl
all_well PaDataType = refl
all_well AuthorizationDataType = refl
all_well AddressType = refl
all_well TransitedEncodingType = refl
all_well LastRequestType = refl
all_well TicketFlag = refl
all_well KdcOption = refl
all_well ApOption = refl
all_well KeyUsage = refl
all_well PacBufferType = refl
all_well GssFlag = refl
all_well NegotiationState = refl
all_well ContextFlag = refl
all_well TokenFlag = refl

row_well : (kind : Kind) (z : ℤ) (name : List ℕ) → IsRow kind z name → names_well (z, name) ≡ true
row_well kind z name (k, lt, e) = ap names_well (sym e) ∙ at_each names_well (table kind) k (z, name) (all_well kind) lt

-- ---- what stands beside a number, flags and an object identifier

pub note_beside : (kind : Option Kind) (z : ℤ) (note : List ℕ) → IsNote kind z note → IsNameBeside (escaped style.Plain note)
note_beside None z note e = subst (λ (l : List ℕ). IsNameBeside (escaped style.Plain l)) (sym e) tt
note_beside (Some kind) z note (inl (name, row, e)) =
    let well = row_well kind z name row in
    let same = word_itself name (and_left (all_of is_word_octet name) (other_than (begins_as_octets name)) well) in
    let behind : begins_as_octets (escaped style.Plain name) ≡ false =
    ap begins_as_octets same ∙ of_other (begins_as_octets name) (and_right (all_of is_word_octet name) (other_than (begins_as_octets name)) well) in
    subst (λ (l : List ℕ). IsNameBeside (escaped style.Plain l)) (sym e) (refl, behind)
note_beside (Some kind) z note (inr (none, e)) = subst (λ (l : List ℕ). IsNameBeside (escaped style.Plain l)) (sym e) tt

-- nothing, or a blank first
abbrev pub IsSpaced : List ℕ → Type 0
IsSpaced note = (note ≡ []) ⊎ ((rest : List ℕ) × (note ≡ 32 ∷ rest))

spaced_more : (before name : List ℕ) → IsSpaced before → IsSpaced (before ++ 32 ∷ name)
spaced_more before name (inl e) = inr (name, ap (λ (l : List ℕ). l ++ 32 ∷ name) e)
spaced_more before name (inr (rest, e)) = inr (rest ++ 32 ∷ name, ap (λ (l : List ℕ). l ++ 32 ∷ name) e)

flags_spaced : (kind : Kind) (octets : List ℕ) (count : ℕ) (note : List ℕ) → AreFlags kind octets count note → IsSpaced note
unfolding AreFlags
flags_spaced kind octets zero note e = inl e
flags_spaced kind octets (suc bit) note (before, h, inl (set, name, is, e)) =
    subst IsSpaced (sym e) (spaced_more before name (flags_spaced kind octets bit before h))
flags_spaced kind octets (suc bit) note (before, h, inr (clear, e)) = subst IsSpaced (sym e) (flags_spaced kind octets bit before h)

spaced_beside : (note : List ℕ) → IsSpaced note → IsBeside (escaped style.Plain note)
spaced_beside note (inl e) = subst (λ (l : List ℕ). IsBeside (escaped style.Plain l)) (sym e) tt
spaced_beside note (inr (rest, e)) = subst (λ (l : List ℕ). IsBeside (escaped style.Plain l)) (sym e) refl

pub flags_beside : (kind : Option Kind) (octets note : List ℕ) → IsFlagsNote kind octets note → IsBeside (escaped style.Plain note)
flags_beside None octets note e = spaced_beside note (inl e)
flags_beside (Some kind) octets note h = spaced_beside note (flags_spaced kind octets 32 note h)

pub identifier_beside : (dotted note : List ℕ) → IsIdentifierNote dotted note → IsBeside (escaped style.Plain note)
unfolding IsIdentifierNote
identifier_beside dotted note (inl (name, row, e)) = spaced_beside note (inr (name, e))
identifier_beside dotted note (inr (none, e)) = spaced_beside note (inl e)
