use Rattle.std.proofs.Common.{◌≡◌, ◌≢◌, ℕ, List, ◌++◌, length, arith, rules}
use Rattle.krb_gss_per_message.proofs.Plaintexts.{message_found, other_header}
use Rattle.krb_gss_per_message.proofs.unwrapping.message_size.Goals as goal

pub returns-then-ne : goal.returns-then-ne
returns-then-ne c =
    let front : List ℕ = c.split_at.result.0.now in
    let back : List ℕ = c.split_at.result.1.now in
    let whole : c.args.plaintext.now ≡ front ++ back = search rules in
    let size : length back ≡ length c.args.header.now = search rules in
    let differ : back ≢ c.args.header.now = search rules in
    other_header c.args.extra_count c.args.header.now c.args.plaintext.now front back whole size differ

pub returns : goal.returns
returns c =
    let front : List ℕ = c.split_at.result.0.now in
    let back : List ℕ = c.split_at.result.1.now in
    let whole : c.args.plaintext.now ≡ front ++ back = search rules in
    let same : back ≡ c.args.header.now = search rules in
    message_found c.args.extra_count c.args.header.now c.args.plaintext.now front back whole same (omega arith)
