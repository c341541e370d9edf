-- How the first error of a content becomes that of an element with a wanted tag.
use Rattle.std.proofs.Common.{◌≡◌, ℕ, List, inr}
use Rattle.std.specs.Prelude.{Result, Ok, Err, IfErr}
use Rattle.krb_der_core.specs.declared.error.Asn1DerError.{Asn1DerError}
use Rattle.krb_der_core.specs.declared.error.Asn1DerError.TheVariants as errors
use Rattle.krb_der_core.specs.Errors.{other_tag, in_content}
use Rattle.krb_der_core.specs.Errors.{OrMemory, TaggedError}
use Rattle.krb_der_core.proofs.FirstErrors.{or_memory}

module _ (error : List ℕ → Asn1DerError → Type 0) where
  pub tag_wrong : (wanted t : ℕ) (content : List ℕ) → (t ≡ wanted → ⊥) → OrMemory (TaggedError wanted error t content) errors.InvalidData
  tag_wrong wanted t content other = inr (other_tag other)

  pub content_wrong : (wanted t : ℕ) (content : List ℕ) (e : Asn1DerError) → t ≡ wanted → OrMemory (error content) e → OrMemory (TaggedError wanted error t content) e
  content_wrong wanted t content e same h = or_memory (error content) (TaggedError wanted error t content) e (in_content e same) h

  pub contents_wrong : {A : Type 0} (wanted t : ℕ) (content : List ℕ) (r : Result A Asn1DerError) → t ≡ wanted → IfErr r (OrMemory (error content)) → IfErr r (OrMemory (TaggedError wanted error t content))
  contents_wrong wanted t content (Ok v) same h = tt
  contents_wrong wanted t content (Err e) same h = content_wrong wanted t content e same h
