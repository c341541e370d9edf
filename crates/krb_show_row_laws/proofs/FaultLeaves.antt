-- Rows and readers of elements without elements: the first fault is the first error.
use Rattle.std.proofs.Common.{◌≡◌, ◌⊎◌, inl, inr, ℕ, suc, ◌+◌, ◌≤◌, refl, sym, ap, subst, ◌∙◌, Some, List, length}
use Rattle.std.specs.List.{slice_get}
use Rattle.std.proofs.lemmas.List.{length-map}
use Rattle.krb_schema.specs.declared.item.Fault.{Fault}
use Rattle.krb_schema.specs.declared.shape.Leaf.TheVariants as leaves
use Rattle.krb_schema.specs.declared.shape.Schema.{Schema}
use Rattle.krb_schema.specs.declared.shape.Shape.TheVariants as shape
use Rattle.krb_schema.specs.Faults.{refused_at}
use Rattle.krb_schema.specs.Named.{IsKerberos, case_row}
use Rattle.krb_schema.specs.Shapes.{IsRange}
use Rattle.krb_schema.specs.Types.{cases, shapes}
use Rattle.krb_show_row_laws.proofs.BareRows.{any_tie, identifier_tie, octets_under_tie}
use Rattle.krb_show_row_laws.proofs.CodecRows.{bits_tie, cipher_tie, component_tie, flags_tie, holding_tie, integer_tie, microseconds_tie, number_tie, octets_tie, secret_tie, text_tie, time_tie, truth_tie, unsigned_tie}
use Rattle.krb_show_row_laws.proofs.Codecs as codec
use Rattle.krb_show_row_laws.proofs.Readers.{Reader}
use Rattle.krb_show_row_laws.proofs.Readers as reader
use Rattle.krb_der.specs.Whole.{NoDevice}
use Rattle.krb_der_core.specs.declared.error.Asn1DerError.{Asn1DerError}
use Rattle.krb_der_core.specs.declared.error.Asn1DerError.TheVariants as errors
use Rattle.krb_der_core.specs.Errors.{TaggedError, in_content, other_tag}
use Rattle.krb_der_x509.specs.ObjectIdentifierErrors.{ArcsError, IsTooLarge}
use Rattle.krb_show_row_laws.proofs.FaultRows.{FaultTie, IsErrorAs, element_refused, leaf_refused, refused_as}

module _ (schema : Schema) (kerberos : IsKerberos schema) where
  -- ---- elements without elements, by their kinds

  -- invalid data alone
  invalid : (r : Reader) (tag : ℕ) → ((content : List ℕ) (e : Asn1DerError) → r.error tag content e → e ≡ errors.InvalidData) → (at : ℕ) (content : List ℕ)
      (fault : Fault) → refused_at at (r.error tag content) fault → IsErrorAs (r.error tag content) fault
  invalid r tag is_invalid at content fault f = refused_as at fault (λ e g. (g, subst NoDevice (sym (is_invalid content e g)) tt)) f

  of_arcs : (content : List ℕ) (e : Asn1DerError) → ArcsError content e → NoDevice e
  of_arcs content e (inl h) = subst NoDevice (sym h.0) tt
  of_arcs content e (inr r) = of_sub r.first_left.1
    where
      of_sub : ((e ≡ errors.UnsupportedValue) × IsTooLarge r.rest) ⊎ ((e ≡ errors.InvalidData) × (IsTooLarge r.rest → ⊥)) → NoDevice e
      of_sub (inl h) = subst NoDevice (sym h.0) tt
      of_sub (inr h) = subst NoDevice (sym h.0) tt

  of_identifier : (content : List ℕ) (e : Asn1DerError) → TaggedError 6 ArcsError 6 content e → NoDevice e
  of_identifier content e (other_tag n) = tt
  of_identifier content e (in_content d is h) = of_arcs content d h

  pub integer_refused : (levels is : ℕ) → slice_get shapes is ≡ Some (shape.Leaf 2 leaves.Integer) → FaultTie schema kerberos (suc levels) is reader.integer
  integer_refused levels is at = leaf_refused schema kerberos levels is 2 leaves.Integer reader.integer codec.integer at
      (integer_tie schema kerberos levels is at)
      (λ o x v e. record { value = x; valid = v; are = e }) (λ t. refl) (invalid reader.integer 2 (λ content e g. g.0))

  pub number_refused : (levels is n : ℕ) → slice_get shapes is ≡ Some (shape.Leaf 2 (leaves.Number n))
      → FaultTie schema kerberos (suc levels) is reader.integer
  number_refused levels is n at = leaf_refused schema kerberos levels is 2 (leaves.Number n) reader.integer codec.integer at
      (number_tie schema kerberos levels is n at)
      (λ o x v e. record { value = x; valid = v; are = e }) (λ t. refl) (invalid reader.integer 2 (λ content e g. g.0))

  pub microseconds_refused : (levels is : ℕ) → slice_get shapes is ≡ Some (shape.Leaf 2 leaves.Microseconds)
      → FaultTie schema kerberos (suc levels) is reader.integer
  microseconds_refused levels is at = leaf_refused schema kerberos levels is 2 leaves.Microseconds reader.integer codec.integer at
      (microseconds_tie schema kerberos levels is at)
      (λ o x v e. record { value = x; valid = v; are = e }) (λ t. refl) (invalid reader.integer 2 (λ content e g. g.0))

  pub unsigned_refused : (levels is : ℕ) → slice_get shapes is ≡ Some (shape.Leaf 2 leaves.Unsigned)
      → FaultTie schema kerberos (suc levels) is reader.unsigned
  unsigned_refused levels is at = leaf_refused schema kerberos levels is 2 leaves.Unsigned reader.unsigned codec.unsigned at
      (unsigned_tie schema kerberos levels is at)
      (λ o x v e. record { value = x; valid = v; are = e }) (λ t. refl) (invalid reader.unsigned 2 (λ content e g. g.0))

  pub flags_refused : (levels is : ℕ) → slice_get shapes is ≡ Some (shape.Leaf 3 leaves.Flags) → FaultTie schema kerberos (suc levels) is reader.bits
  flags_refused levels is at = leaf_refused schema kerberos levels is 3 leaves.Flags reader.bits codec.bits at (flags_tie schema kerberos levels is at)
      (λ o x v e. record { value = x; valid = v; are = e }) (λ t. refl) (invalid reader.bits 3 (λ content e g. g.0))

  pub bits_refused : (levels is : ℕ) → slice_get shapes is ≡ Some (shape.Leaf 3 leaves.Bits) → FaultTie schema kerberos (suc levels) is reader.bits
  bits_refused levels is at = leaf_refused schema kerberos levels is 3 leaves.Bits reader.bits codec.bits at (bits_tie schema kerberos levels is at)
      (λ o x v e. record { value = x; valid = v; are = e }) (λ t. refl) (invalid reader.bits 3 (λ content e g. g.0))

  pub time_refused : (levels is : ℕ) → slice_get shapes is ≡ Some (shape.Leaf 24 leaves.Time) → FaultTie schema kerberos (suc levels) is reader.time
  time_refused levels is at = leaf_refused schema kerberos levels is 24 leaves.Time reader.time codec.time at (time_tie schema kerberos levels is at)
      (λ o x v e. record { value = x; valid = v; are = e }) (λ t. refl) (invalid reader.time 24 (λ content e g. g.0))

  pub text_refused : (levels is : ℕ) → slice_get shapes is ≡ Some (shape.Leaf 27 leaves.Text) → FaultTie schema kerberos (suc levels) is reader.text
  text_refused levels is at = leaf_refused schema kerberos levels is 27 leaves.Text reader.text codec.text at (text_tie schema kerberos levels is at)
      (λ o x v e. record { value = x; valid = v; are = e }) (λ t. refl) (invalid reader.text 27 (λ content e g. g.0))

  pub component_refused : (levels is : ℕ) → slice_get shapes is ≡ Some (shape.Leaf 27 leaves.Component) → FaultTie schema kerberos (suc levels) is reader.text
  component_refused levels is at = leaf_refused schema kerberos levels is 27 leaves.Component reader.text codec.text at
      (component_tie schema kerberos levels is at)
      (λ o x v e. record { value = x; valid = v; are = e }) (λ t. refl) (invalid reader.text 27 (λ content e g. g.0))

  pub truth_refused : (levels is : ℕ) → slice_get shapes is ≡ Some (shape.Leaf 1 leaves.Truth) → FaultTie schema kerberos (suc levels) is reader.truth
  truth_refused levels is at = leaf_refused schema kerberos levels is 1 leaves.Truth reader.truth codec.truth at (truth_tie schema kerberos levels is at)
      (λ o x v e. record { value = x; valid = v; are = e }) (λ t. refl) (invalid reader.truth 1 (λ content e g. g.0))

  pub identifier_refused : (levels is : ℕ) → slice_get shapes is ≡ Some (shape.Leaf 6 leaves.Identifier)
      → FaultTie schema kerberos (suc levels) is reader.identifier
  identifier_refused levels is at = leaf_refused schema kerberos levels is 6 leaves.Identifier reader.identifier codec.identifier at
      (identifier_tie schema kerberos levels is at)
      (λ o x v e. record { value = x; valid = v; are = e }) (λ t. refl) (λ place content d f. refused_as place d (λ e g. (g, of_identifier content e g)) f)

  -- octets have no fault
  pub octets_refused : (levels is : ℕ) → slice_get shapes is ≡ Some (shape.Leaf 4 leaves.Octets) → FaultTie schema kerberos (suc levels) is reader.octets
  octets_refused levels is at = leaf_refused schema kerberos levels is 4 leaves.Octets reader.octets codec.octets at (octets_tie schema kerberos levels is at)
      (λ o x v e. record { value = x; valid = v; are = e }) (λ t. refl) (λ place content d f. absurd f)

  pub secret_refused : (levels is : ℕ) → slice_get shapes is ≡ Some (shape.Leaf 4 leaves.Secret) → FaultTie schema kerberos (suc levels) is reader.octets
  secret_refused levels is at = leaf_refused schema kerberos levels is 4 leaves.Secret reader.octets codec.octets at (secret_tie schema kerberos levels is at)
      (λ o x v e. record { value = x; valid = v; are = e }) (λ t. refl) (λ place content d f. absurd f)

  pub cipher_refused : (levels is : ℕ) → slice_get shapes is ≡ Some (shape.Leaf 4 leaves.Cipher) → FaultTie schema kerberos (suc levels) is reader.octets
  cipher_refused levels is at = leaf_refused schema kerberos levels is 4 leaves.Cipher reader.octets codec.octets at (cipher_tie schema kerberos levels is at)
      (λ o x v e. record { value = x; valid = v; are = e }) (λ t. refl) (λ place content d f. absurd f)

  pub octets_under_refused : (levels is tag : ℕ) → slice_get shapes is ≡ Some (shape.Leaf tag leaves.Octets)
      → FaultTie schema kerberos (suc levels) is (reader.octets_under tag)
  octets_under_refused levels is tag at = leaf_refused schema kerberos levels is tag leaves.Octets (reader.octets_under tag) (codec.octets_under tag) at
      (octets_under_tie schema kerberos levels is tag at) (λ o x v e. record { value = x; valid = (v, refl); are = e }) (λ t. refl)
      (λ place content d f. absurd f)

  -- nor has an OCTET STRING that may hold an element, and any element in its content
  pub holding_refused : (levels is start count : ℕ) → slice_get shapes is ≡ Some (shape.Holding start count) → start + count ≤ length cases
      → FaultTie schema kerberos (suc levels) is reader.octets
  holding_refused levels is start count is_row range = record {
    from = λ name before o small h.
        (let x = (holding_tie schema kerberos levels is start count is_row range).from name before o small h in record { value = x.code; valid = x.valid; are = x.are });
    refused = λ name before at o fault input h.
        element_refused schema kerberos levels is (shape.Holding start count) reader.octets is_row (λ u. refl) name before
        (λ u place content d first fits f. absurd (f.0 (cases_in range))) at o fault input h;
  }
    where
      cases_in : start + count ≤ length cases → IsRange start count schema.cases.now
      cases_in r = subst (λ (n : ℕ). start + count ≤ n) (sym (ap length kerberos.held) ∙ length-map schema.cases.now case_row) r

  pub any_refused : (levels is : ℕ) → slice_get shapes is ≡ Some shape.Any → FaultTie schema kerberos (suc levels) is reader.any
  any_refused levels is is_row = record {
    from = λ name before o small h.
        (let x = (any_tie schema kerberos levels is is_row).from name before o small h in record { value = x.code; valid = x.valid; are = x.are });
    refused = λ name before at o fault input h.
        element_refused schema kerberos levels is shape.Any reader.any is_row (λ u. refl) name before
        (λ u place content d first fits f. absurd f) at o fault input h;
  }
