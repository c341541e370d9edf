-- No number and no name stands twice in a table: one test computes over the whole table, and a lemma turns it into the rule at each row.
use Rattle.std.proofs.Common.{◌≡◌, ℕ, ◌≤◌, ℤ, pos, ◌&&◌, cond, Bool, true, List, [], ◌∷◌, All, Contains, refl, sym, ◌∙◌, ap}
use Rattle.std.specs.Ordering.{int_eq}
use Rattle.std.specs.Str.{bytes_eq}
use Rattle.std.specs.Bool.{Decides}
use Rattle.std.proofs.lemmas.Bool.Decides.{Decides-int_eq, Decides-by_and, Decides-and}
use Rattle.std.proofs.lemmas.Slice.Eq.{bytes_eq-Decides}
use Rattle.std.proofs.lemmas.List.Elements.{All-contains}
use Rattle.krb_registry.specs.Names.{table, mechanisms, IsPlain}
use Rattle.std.proofs.Math.Dec.{leb}
use Rattle.std.proofs.lemmas.Bool.{le-leb, leb-true}
use Rattle.krb_registry.specs.declared.kind.Kind.{Kind}
use Rattle.krb_registry.specs.declared.kind.Kind.TheVariants.{EncryptionType, ChecksumType, NameType, MessageType, ErrorCode, PaDataType, AuthorizationDataType, AddressType}
use Rattle.krb_registry.specs.declared.kind.Kind.TheVariants.{TransitedEncodingType, LastRequestType, TicketFlag, KdcOption, ApOption, KeyUsage, PacBufferType, GssFlag}
use Rattle.krb_registry.specs.declared.kind.Kind.TheVariants.{NegotiationState, ContextFlag, TokenFlag}

-- ---- the test

abbrev pub every : {X : Type 0} → (X → Bool) → List X → Bool
every p [] = true
every p (x ∷ xs) = p x && every p xs

pub of_every : {X : Type 0} (p : X → Bool) (P : X → Type 0) (each : (x : X) → Decides (p x) (P x)) (xs : List X) → every p xs ≡ true → All P xs
of_every p P each xs test = (Decides-by_and p P (every p) each refl (λ _ _. refl) xs).0 test

-- the value of the first row with this key
abbrev pub value_of : {R K V : Type 0} → (R → K) → (R → V) → (K → K → Bool) → V → K → List R → V
value_of key value same none k [] = none
value_of key value same none k (row ∷ rows) = cond (same k (key row)) (value row) (value_of key value same none k rows)

-- each row has the value of the first row with its key
abbrev pub are_once : {R K V : Type 0} → (R → K) → (R → V) → (K → K → Bool) → (V → V → Bool) → V → List R → Bool
are_once key value same same_value none rows = every (λ row. same_value (value_of key value same none (key row) rows) (value row)) rows

-- so two rows with one key have one value
pub one_value : {R K V : Type 0} (key : R → K) (value : R → V) (same : K → K → Bool) (same_value : V → V → Bool)
    (decides : (v w : V) → Decides (same_value v w) (v ≡ w)) (none : V) (rows : List R) → are_once key value same same_value none rows ≡ true
    → (r s : R) → key r ≡ key s → Contains rows r → Contains rows s → value r ≡ value s
one_value {R = R} {K = K} {V = V} key value same same_value decides none rows test r s e has_r has_s =
    let found : K → V = λ k. value_of key value same none k rows in
    let IsFound : R → Type 0 = λ row. found (key row) ≡ value row in
    let all = of_every (λ row. same_value (found (key row)) (value row)) IsFound (λ row. decides (found (key row)) (value row)) rows test in
    sym (All-contains IsFound rows r all has_r) ∙ ap found e ∙ All-contains IsFound rows s all has_s

-- ---- the tables

abbrev pub number_of : ℤ × List ℕ → ℤ
number_of row = row.0

abbrev pub name_of : ℤ × List ℕ → List ℕ
name_of row = row.1

abbrev pub identifier_of : List ℕ × List ℕ → List ℕ
identifier_of row = row.0

abbrev pub mechanism_of : List ℕ × List ℕ → List ℕ
mechanism_of row = row.1

numbers_are_once : (kind : Kind) → are_once number_of name_of int_eq bytes_eq [] (table kind) ≡ true
unfolding table
numbers_are_once EncryptionType = refl
numbers_are_once ChecksumType = refl
numbers_are_once NameType = refl
numbers_are_once MessageType = refl
numbers_are_once ErrorCode = refl
numbers_are_once PaDataType = refl
numbers_are_once AuthorizationDataType = refl
numbers_are_once AddressType = refl
numbers_are_once TransitedEncodingType = refl
numbers_are_once LastRequestType = refl
numbers_are_once TicketFlag = refl
numbers_are_once KdcOption = refl
numbers_are_once ApOption = refl
numbers_are_once KeyUsage = refl
numbers_are_once PacBufferType = refl
numbers_are_once GssFlag = refl
numbers_are_once NegotiationState = refl
numbers_are_once ContextFlag = refl
numbers_are_once TokenFlag = refl

names_are_once : (kind : Kind) → are_once name_of number_of bytes_eq int_eq (pos 0) (table kind) ≡ true
unfolding table
names_are_once EncryptionType = refl
names_are_once ChecksumType = refl
names_are_once NameType = refl
names_are_once MessageType = refl
names_are_once ErrorCode = refl
names_are_once PaDataType = refl
names_are_once AuthorizationDataType = refl
names_are_once AddressType = refl
names_are_once TransitedEncodingType = refl
names_are_once LastRequestType = refl
names_are_once TicketFlag = refl
names_are_once KdcOption = refl
names_are_once ApOption = refl
names_are_once KeyUsage = refl
names_are_once PacBufferType = refl
names_are_once GssFlag = refl
names_are_once NegotiationState = refl
names_are_once ContextFlag = refl
names_are_once TokenFlag = refl

identifiers_are_once : are_once identifier_of mechanism_of bytes_eq bytes_eq [] mechanisms ≡ true
unfolding mechanisms
identifiers_are_once = refl

mechanisms_are_once : are_once mechanism_of identifier_of bytes_eq bytes_eq [] mechanisms ≡ true
unfolding mechanisms
mechanisms_are_once = refl

pub number_has_one_name : (kind : Kind) (number : ℤ) (a b : List ℕ) → Contains (table kind) (number, a) → Contains (table kind) (number, b) → a ≡ b
number_has_one_name kind number a b =
    one_value number_of name_of int_eq bytes_eq bytes_eq-Decides [] (table kind) (numbers_are_once kind) (number, a) (number, b) refl

pub name_has_one_number : (kind : Kind) (a b : ℤ) (name : List ℕ) → Contains (table kind) (a, name) → Contains (table kind) (b, name) → a ≡ b
name_has_one_number kind a b name =
    one_value name_of number_of bytes_eq int_eq Decides-int_eq (pos 0) (table kind) (names_are_once kind) (a, name) (b, name) refl

pub identifier_has_one_name : (identifier a b : List ℕ) → Contains mechanisms (identifier, a) → Contains mechanisms (identifier, b) → a ≡ b
identifier_has_one_name identifier a b =
    one_value identifier_of mechanism_of bytes_eq bytes_eq bytes_eq-Decides [] mechanisms identifiers_are_once (identifier, a) (identifier, b) refl

pub mechanism_has_one_identifier : (a b name : List ℕ) → Contains mechanisms (a, name) → Contains mechanisms (b, name) → a ≡ b
mechanism_has_one_identifier a b name =
    one_value mechanism_of identifier_of bytes_eq bytes_eq bytes_eq-Decides [] mechanisms mechanisms_are_once (a, name) (b, name) refl

-- ---- names are printable

abbrev pub is_plain : List ℕ → Bool
is_plain = every (λ octet. leb 33 octet && leb octet 126)

leb-Decides : (a b : ℕ) → Decides (leb a b) (a ≤ b)
leb-Decides a b = (leb-true a b, le-leb a b)

decides_plain : (name : List ℕ) → Decides (is_plain name) (IsPlain name)
decides_plain name =
    Decides-by_and (λ octet. leb 33 octet && leb octet 126) (λ octet. (33 ≤ octet) × (octet ≤ 126)) is_plain
    (λ octet. Decides-and (leb 33 octet) (leb octet 126) (leb-Decides 33 octet) (leb-Decides octet 126)) refl (λ _ _. refl) name

are_plain : (kind : Kind) → every (λ row. is_plain row.1) (table kind) ≡ true
unfolding table
are_plain EncryptionType = refl
are_plain ChecksumType = refl
are_plain NameType = refl
are_plain MessageType = refl
are_plain ErrorCode = refl
are_plain PaDataType = refl
are_plain AuthorizationDataType = refl
are_plain AddressType = refl
are_plain TransitedEncodingType = refl
are_plain LastRequestType = refl
are_plain TicketFlag = refl
are_plain KdcOption = refl
are_plain ApOption = refl
are_plain KeyUsage = refl
are_plain PacBufferType = refl
are_plain GssFlag = refl
are_plain NegotiationState = refl
are_plain ContextFlag = refl
are_plain TokenFlag = refl

pub names_are_plain : (kind : Kind) → All (λ row. IsPlain row.1) (table kind)
names_are_plain kind = of_every (λ row. is_plain row.1) (λ row. IsPlain row.1) (λ row. decides_plain row.1) (table kind) (are_plain kind)

mechanisms_test : every (λ row. is_plain row.0 && is_plain row.1) mechanisms ≡ true
unfolding mechanisms
mechanisms_test = refl

pub mechanisms_are_plain : All (λ row. IsPlain row.0 × IsPlain row.1) mechanisms
mechanisms_are_plain =
    of_every (λ row. is_plain row.0 && is_plain row.1) (λ row. IsPlain row.0 × IsPlain row.1)
    (λ row. Decides-and (is_plain row.0) (is_plain row.1) (decides_plain row.0) (decides_plain row.1)) mechanisms mechanisms_test
