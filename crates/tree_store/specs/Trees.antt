-- What holds of two trees that hold one set of rules, the second mirrored.
use Rattle.std.specs.Prelude.{◌≡◌, ℕ, ◌≤◌, min, List, ◌∷◌, ◌++◌, [], ◌⊎◌, length}
use Rattle.std.proofs.Common.{sym, ap, subst, inl, inr, arith}
use mathlib.Core.List.{is_set}
use native.Mathlib.Nat.{ℕ_set, min-le_right}
use Rattle.address.specs.declared.kind.AddressKind.{Ghosts}
use Rattle.rules.specs.Rules.{Rule, In, Canonical, Bounded}
use Rattle.rules.specs.Answers.{numbered, Sound}
use Rattle.mirror.specs.Mirrored.{mirrored}
use Rattle.mirror.proofs.Mirrors.{mirrored-length}
use Rattle.tree.specs.Tree.{RuleTree, leaf, node, rules_in}
use Rattle.tree.specs.Nodes.{whole}
use Rattle.tree_engine.specs.declared.engine.Engine.{Engine}
use Rattle.rules.specs.Answers.{capped}
use Rattle.tree_engine.specs.Engines.{rules_of, places_of}
use Rattle.tree_engine.proofs.Seal.{order-sealed, room-sealed}

-- two lists of rules are equal in one way at most
pub rules-set : IsSet (List Rule)
rules-set = is_set (hlevel ℕ_set)

in_parts : (xs ys : List Rule) (r : Rule) → In r (xs ++ ys) → In r xs ⊎ In r ys
in_parts [] ys r i = inr i
in_parts (x ∷ xs) ys r (inl e) = inl (inl e)
in_parts (x ∷ xs) ys r (inr i) = elim (in_parts xs ys r i) [ inl k ↦ inl (inr k) | inr k ↦ inr k ]

-- no stored rule goes past the last address
pub rules-bounded : {A : Type 0} (num : A → ℕ) (last : ℕ) → ((x : A) → num x ≤ last) → (t : RuleTree A) → Bounded last (rules_in num t)
rules-bounded num last b leaf r i = elim i [ ]
rules-bounded num last b (node l k x u) r i =
    elim (in_parts (rules_in num l) (numbered num x ∷ rules_in num u) r i) [
      | inl h ↦ rules-bounded num last b l r h
      | inr h ↦ elim h [ inl e ↦ subst (λ (y : Rule). y.finish ≤ last) (sym e) (b x.finish) | inr g ↦ rules-bounded num last b u r g ]
    ]

pub sound : {A B : Type 0} {k : Ghosts A} {o e p : _} {j : Ghosts B} {q f r : _} (last : ℕ) → ((x : A) → k.num x ≤ last) → (t : Engine A k o e p) (m : Engine B j q f r)
    → rules_of m ≡ mirrored last (rules_of t) → Sound (capped (min (places_of t) (places_of m))) last (rules_of t)
sound {k = k} {j = j} last bounded t m same =
    let c : Canonical (rules_of t) = order-sealed k.num t.nodes.now t.heads t.kept in
    let b : Bounded last (rules_of t) = rules-bounded k.num last bounded (whole t.nodes.now t.heads.root) in
    record {
      within = omega (arith, room-sealed k.num t.nodes.now t.heads t.kept, room-sealed j.num m.nodes.now m.heads m.kept, ap length same, mirrored-length last (rules_of t) c b);
      capped = min-le_right (min (places_of t) (places_of m)) 65535;
      canonical = c;
      bounded = b;
    }
