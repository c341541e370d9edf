use Rattle.std.proofs.Common.{sym, ◌∙◌, refl, [], ◌∷◌, arith, rules}
use Rattle.krb_show.specs.Tree.{leaf_of, alone}
use Rattle.krb_show.proofs.Trees.{on_ok, element_shown, tree_ended, tree_longer, tree_stopped}
use Rattle.krb_show.proofs.tree.+tree.Goals as goal

pub push_element-returns-then-not-is_opened : goal.push_element-returns-then-not-is_opened
push_element-returns-then-not-is_opened t c =
    on_ok c.push_leaf.result _ _
    (λ e. (
      leaf_of c.args.at c.args.tag c.args.content.now ∷ [],
      alone c.args.levels c.args.at c.args.header c.args.tag c.args.content.now
          (sym c.is_opened.ensures ∙ c.if-not-is_opened.true),
      e,
    )) c.push_leaf.ensures

pub push_element-returns : goal.push_element-returns
push_element-returns t c =
    let h = c.in_ok-push_elements.ensures in
    let content = c.args.content.now in
    on_ok c.push_heading-2.result _ _
    (element_shown c.args.levels c.args.at c.args.header c.args.tag content h.0 c.args.page.now.items c.push_heading.new.page.items c.push_elements.new.page.items
    c.push_heading-2.new.page.items (sym c.is_opened.ensures ∙ c.if-not-is_opened.false) h.1 (c.in_ok-push_heading.ensures content refl) h.2)
    (c.push_heading-2.ensures content refl)

pub push_elements-returns-in-Err : goal.push_elements-returns-in-Err
push_elements-returns-in-Err t c =
    let s = c.elements.invariant.shown in
    on_ok c.push_rest.result _ _
    (tree_stopped c.args.levels c.elements.at c.args.start c.elements.rest.now c.args.octets.now c.in-Err.why s.0 c.args.page.now.items c.elements.page.items
    c.push_rest.new.page.items c.in-Err.ensures.rejected s.1 s.2) c.push_rest.ensures

pub push_elements-elements-preserved : goal.push_elements-elements-preserved
push_elements-elements-preserved t c =
    let s = c.elements.invariant.shown in
    let f = c.in-Ok.ensures in
    let h = c.in_ok-push_element-in-Ok.ensures in
    record {
      size = omega (arith, c.elements.invariant.size, f.parts);
      shown = tree_longer c.args.levels c.elements.at c.in-Ok.found.header c.args.start c.in-Ok.found.tag c.in-Ok.found.content.now c.elements.rest.now
          c.in-Ok.found.rest.now c.args.octets.now s.0 h.0 c.args.page.now.items c.elements.page.items c.push_element.new.page.items f.found f.short f.size h.1 s.1 s.2 h.2;
    }

pub push_elements-returns : goal.push_elements-returns
push_elements-returns t c =
    let s = c.elements.invariant.shown in
    tree_ended c.args.levels c.elements.at c.args.start c.elements.rest.now c.args.octets.now s.0 c.args.page.now.items c.elements.page.items
    (search rules) s.1 s.2
