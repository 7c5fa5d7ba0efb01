-- In an exact state messages arrive in the order of their requests.
use Rattle.std.{proofs.{Common.{◌≡◌, refl, ap, ◌∙◌, List, [], ◌∷◌, ◌++◌, Option, Some, None, All, rules}, lemmas.List.Elements.{All-head, All-tail, filter_map-append}}, specs.List.{cons_option}}
use Rattle.{std.specs.Prelude.{filter_map}, dgt_values.specs.declared.kinds.Kind.{Kind}, dgt_message.specs.Content.{Content, answered_kind}, dgt_decode.specs.Grammar.{Event}}
use Rattle.{dgt_host.specs.Host.{IsUnasked}, dgt_link.specs.{Machine.{MachineState}, Sound.{IsExact}}}

-- messages without a kind answer nothing that is awaited
no_kinds : (messages : List Content) → All (λ other. answered_kind other ≡ None) messages
    → filter_map answered_kind messages ≡ []
no_kinds [] none = refl
no_kinds (message ∷ messages) none =
    ap (λ (kind : Option Kind). cons_option kind (filter_map answered_kind messages))
    (All-head (λ other. answered_kind other ≡ None) message messages none)
    ∙ no_kinds messages (All-tail (λ other. answered_kind other ≡ None) message messages none)

pub first_answer : (x : MachineState) (before later : List Content) (message : Content)
    (kind : Kind) → IsExact x → x.up ≡ before ++ message ∷ later
    → All (λ other. answered_kind other ≡ None) before → answered_kind message ≡ Some kind
    → (others : List Kind) × (x.awaited ≡ kind ∷ others)
first_answer x before later message kind exact e none is =
    search (rules, filter_map-append, no_kinds)

pub never_unasked : (x : MachineState) (later : List Content) (message : Content) → IsExact x
    → x.up ≡ message ∷ later → ¬ (IsUnasked x.awaited (Some (Event.Message message)))
never_unasked x later message exact e (kind, is, other) = search rules
