use Rattle.std.proofs.Common.{ℕ, List, ◌++◌, length, true, false, [], refl, ap, sym, append-nil, arith}
use Rattle.krb_crypto.specs.BySuite.{checksum_suite_of}
use Rattle.krb_gss_per_message.specs.Keys.{flags_of, seal_usage_of}
use Rattle.krb_gss_per_message.specs.Wrap.{clear_sum, unrotated_header}
use Rattle.krb_gss_per_message.proofs.FlagBits.{flags_made}
use Rattle.krb_gss_per_message.proofs.ShortSums.{sum_short}
use Rattle.krb_gss_per_message.proofs.laws.wrap_tokens.Goals as goal

pub returns-clause-sealed : goal.returns-clause-sealed
returns-clause-sealed c = λ key number rotation confounder message token small count size is. (
  flags_of key true,
  0,
  rotation,
  is.0,
  record { extra_fits = omega arith; rotation_fits = count; number_fits = small; concatenated = is.2 },
  flags_made key true,
  (message ++ unrotated_header (flags_of key true) 0 number, record { confounder = confounder; size_is = size; means = is.1.holds }, ([], refl, ap (λ (xs : List ℕ). xs ++ unrotated_header (flags_of key true) 0 number) (sym (append-nil message)))),
)

pub returns-clause-in_clear : goal.returns-clause-in_clear
returns-clause-in_clear c = λ key number rotation message token small count is.
    let sum : List ℕ = clear_sum key (unrotated_header (flags_of key false) 0 number) message in (
      flags_of key false,
      length sum,
      rotation,
      message ++ sum,
      record {
        extra_fits = sum_short (checksum_suite_of key.suite) key.octets (seal_usage_of key.sender) (message ++ unrotated_header (flags_of key false) 0 number);
        rotation_fits = count;
        number_fits = small;
        concatenated = is;
      },
      flags_made key false,
      (refl, refl),
    )
