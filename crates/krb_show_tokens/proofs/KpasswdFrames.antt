-- What is told of octets that were read as a frame, and of octets that were not.
use Rattle.std.proofs.Common.{◌≡◌, ◌≢◌, ℕ, List, [], ◌++◌, length, drop, refl, sym, ap, subst, ◌∙◌, Result, Ok, Err, MatchResult, arith}
use Rattle.std.proofs.lemmas.List.{append-nil, drop_all}
use Rattle.krb_der_core.specs.Reading.{TakesPrefix}
use Rattle.krb_messages.specs.declared.kpasswd.error.ReadFrameError.{ReadFrameError}
use Rattle.krb_messages.specs.declared.kpasswd.error.ReadFrameError.TheVariants as unread
use Rattle.krb_show.specs.Tokens.{Token}
use Rattle.krb_show_tokens.specs.declared.kpasswd.error.PasswordFrameError.TheVariants as errors
use Rattle.krb_show_tokens.specs.Frame.{IsFrameTold}

module _ {M P : Type 0} (is_value : M → Type 0) (is_frame : M → List ℕ → Type 0) (rejected : List ℕ → ReadFrameError → Type 0)
    (shows : List ℕ → M → List Token → List Token → Type 0) (tokens : P → List Token) (octets : List ℕ) where
  -- the frame that was found at the start of the octets
  abbrev IsFound : M → ℕ → Type 0
  IsFound m n = (x : List ℕ) × is_frame m x × TakesPrefix x n octets

  -- what is read of octets that begin with a frame
  abbrev Reads : Result (M × ℕ) ReadFrameError → Type 0
  Reads result = (m : M) (x rest : List ℕ) → is_value m → is_frame m x → octets ≡ x ++ rest
      → MatchResult result (λ p. p ≡ (m, length x)) (λ e. e ≡ unread.OutOfMemory)

  -- the octets are the frame that was found where they are as many
  pub whole_frame : (m : M) (n : ℕ) → IsFound m n → n ≡ length octets → is_frame m octets
  whole_frame m n (x, f, t) e =
      subst (λ (z : List ℕ). is_frame m z) (sym (t.prefix ∙ ap (λ (r : List ℕ). x ++ r) (drop_all n octets (omega (arith, e))) ∙ append-nil x)) f

  pub told_page : (m : M) (n : ℕ) (page : P) → is_value m → IsFound m n → n ≡ length octets → shows octets m [] (tokens page)
      → IsFrameTold is_value is_frame rejected shows tokens octets (Ok page)
  told_page m n page h found e shown = record { found = (m, h, whole_frame m n found e, shown); reads = λ w i f. tt; refused = tt }

  pub told_memory : rejected octets unread.OutOfMemory → IsFrameTold is_value is_frame rejected shows tokens octets (Err (errors.Frame unread.OutOfMemory))
  told_memory r = record { found = tt; reads = λ w i f. refl; refused = r }

  pub told_longer : (m : M) (n : ℕ) → is_value m → IsFound m n → n ≢ length octets → Reads (Ok (m, n))
      → IsFrameTold is_value is_frame rejected shows tokens octets (Err errors.TrailingOctets)
  told_longer m n h (x, f, t) other reads = record {
    found = tt;
    reads = λ w i g. absurd (other (ap (λ (p : M × ℕ). p.1) (reads w octets [] i g (sym (append-nil octets)))));
    refused = record {
      message = m;
      frame = x;
      rest = drop n octets;
      value = h;
      is = f;
      parts = t.prefix;
      more = λ e. other (t.count ∙ sym (ap length (t.prefix ∙ ap (λ (r : List ℕ). x ++ r) e ∙ append-nil x)));
    };
  }

  pub told_unread : (why : ReadFrameError) → rejected octets why → Reads (Err why) → IsFrameTold is_value is_frame rejected shows tokens octets (Err (errors.Frame why))
  told_unread why r reads = record {
    found = tt;
    reads = λ w i f. ap errors.Frame (reads w octets [] i f (sym (append-nil octets)));
    refused = r;
  }
