use Rattle.std.proofs.Common.{◌≡◌, ◌++◌, length, replicate, ap, sym, ◌∙◌, rules}
use Rattle.std.proofs.lemmas.List.{take_at}
use Rattle.krb_negoex.proofs.numbers.ArrayU832Lay.lay.Goals as goal

pub returns-clause-fixed : goal.returns-clause-fixed
returns-clause-fixed c =
    let v = c.args.self.now in
    let e : c.extend_from_slice.new.self.items ≡ c.args.fixed_part.now.items ++ v = search rules in
    let n : length v ≡ 32 = search rules in
    e ∙ ap (λ z. c.args.fixed_part.now.items ++ z) (sym (take_at v (replicate 32 0) 32 n))
