use Rattle.std.proofs.Common.{◌≡◌, sym, subst, arith}
use Rattle.tree.specs.Tree.{height}
use Rattle.tree.specs.Nodes.{Held}
use Rattle.tree.proofs.Held.{not_own}
use Rattle.tree.proofs.Shape.{balance_right, balance-left, balance_plain}
use Rattle.tree.proofs.turns.balance.Goals as goal

pub returns-then-right-left-clause-made : goal.returns-then-right-left-clause-made
returns-then-right-left-clause-made g c = λ l r P.
    let hl : c.height_at-left.result ≡ height l = c.height_at-left.ensures l P.lower in
    let hr : c.height_at-right.result ≡ height r = c.height_at-right.ensures r P.upper in
    subst (λ t. Held g.A.AddressKind.num c.turn_right.new.nodes c.turn_right.result t) (sym (balance_right l c.args.top.node c.args.top.rule r (omega (arith, c.if-right-left.true)))) (c.turn_right.ensures.made l r P)

pub returns-then-left-right-clause-made : goal.returns-then-left-right-clause-made
returns-then-left-right-clause-made g c = λ l r P.
    let hl : c.height_at-left.result ≡ height l = c.height_at-left.ensures l P.lower in
    let hr : c.height_at-right.result ≡ height r = c.height_at-right.ensures r P.upper in
    subst (λ t. Held g.A.AddressKind.num c.turn_left.new.nodes c.turn_left.result t) (sym (balance-left l c.args.top.node c.args.top.rule r (omega (arith, c.if-left-right.true)))) (c.turn_left.ensures.made l r P)

pub returns-else-left-right-clause-made : goal.returns-else-left-right-clause-made
returns-else-left-right-clause-made g c = λ l r P.
    let hl : c.height_at-left.result ≡ height l = c.height_at-left.ensures l P.lower in
    let hr : c.height_at-right.result ≡ height r = c.height_at-right.ensures r P.upper in
    subst (λ t. Held g.A.AddressKind.num c.join.new.nodes c.args.top.node t) (sym (balance_plain l c.args.top.node c.args.top.rule r (omega (arith, c.if-right-left.false)) (omega (arith, c.if-left-right.false)))) (c.join.ensures.made l r P)

pub returns-else-left-right-clause-beyond : goal.returns-else-left-right-clause-beyond
returns-else-left-right-clause-beyond g c = λ l r P j d z u. c.join.ensures.only j d z (not_own c.args.top.node j (omega arith))
