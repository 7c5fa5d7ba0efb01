-- A host that awaits nothing and starts over leaves an exact world exact.
use Rattle.std.{proofs.{Common.{rules, ◌≡◌, refl, sym, ◌∙◌, ℕ, List, [], ◌∷◌, ◌++◌, append_assoc, map, replicate}, lemmas.List.Elements.{filter_map-append}}, specs.Prelude.{filter_map}}
use Rattle.{dgt_values.specs.declared.kinds.Kind.{Kind}, dgt_command.specs.{Content.{EventContent}, Laws.{DivisionsAppend, ZerosSettleTheReader}}}
use Rattle.{dgt_command.specs.Words.{Divides, IsNoiseList, IsPartial}, dgt_host.specs.Host.{follow_bytes, restart_bytes}, dgt_link.specs.Faults.{FaultyBecomes, FaultyContent, FaultyStep}}
use Rattle.dgt_link.specs.{Machine.{MachineState, commands_anew}, Sound.{IsExact, coming_kinds, kind_of_event}, View.{WorldView}, declared.acts.Outcome.{Outcome}}
use Rattle.{dgt_link.proofs.{Dividing.{anew_divides}, Soundness.{asked_sound, noise-kinds}}, dgt_followed.specs.Restated.{IsRestatedWorld}}

-- a state in which these are also under way to the board
abbrev more_down : MachineState → List EventContent → MachineState
more_down x more = record x { down = x.down ++ more; awaited = Kind.Dump ∷ [] }

-- of noise and the new requests, only a dump has a kind
anew-kinds : (noise : List EventContent) → IsNoiseList noise
    → filter_map kind_of_event (noise ++ map EventContent.Read commands_anew) ≡ Kind.Dump ∷ []
anew-kinds noise is_noise = search (rules, filter_map-append, noise-kinds)

more_down-kinds : (x : MachineState) (more : List EventContent)
    → coming_kinds (more_down x more) ≡ coming_kinds x ++ filter_map kind_of_event more
more_down-kinds x more = search (rules, filter_map-append, append_assoc)

more_exact : (x : MachineState) (noise : List EventContent) → IsNoiseList noise → IsExact x
    → x.awaited ≡ [] → IsExact (more_down x (noise ++ map EventContent.Read commands_anew))
more_exact x noise is_noise exact none = search (rules, more_down-kinds, anew-kinds, asked_sound)

module _ (append : DivisionsAppend) (zeros : ZerosSettleTheReader) (nothing : IsPartial []) where
  anew_comes : (bytes : List ℕ) (events : List EventContent) → Divides bytes events []
      → (noise : List EventContent) × IsNoiseList noise × Divides (bytes ++ restart_bytes)
      (events ++ (noise ++ map EventContent.Read commands_anew)) []
  anew_comes bytes events divides = let (noise, is_noise, divided) = zeros [] nothing in (
    noise,
    is_noise,
    append bytes restart_bytes events (noise ++ map EventContent.Read commands_anew) [] [] divides
        (append (replicate 255 0) follow_bytes noise (map EventContent.Read commands_anew) [] []
        divided (anew_divides nothing)),
  )

  begun_restates : (world after : WorldView) → IsRestatedWorld world → world.host.awaited ≡ []
      → FaultyBecomes FaultyContent.Restart world after → IsRestatedWorld after
  begun_restates world after is none same =
      let x = is.state in
      let (noise, is_noise, down) =
      anew_comes (world.board.partial ++ world.down.bytes) x.down is.stands.down in
      let exact = more_exact x noise is_noise is.exact (sym is.stands.awaited ∙ none) in
      rw same (record {
        state = more_down x (noise ++ map EventContent.Read commands_anew);
        stands = record {
          sound = exact.sound;
          board = is.stands.board;
          picture = is.stands.picture;
          clock = is.stands.clock;
          awaited = refl;
          up = is.stands.up;
          down = rw (append_assoc world.board.partial world.down.bytes restart_bytes) at down;
          partial = is.stands.partial;
        };
        exact = exact;
        restates = is.restates;
      })

  pub beginning_restates : (world after : WorldView) (answer : Outcome) → IsRestatedWorld world
      → world.host.awaited ≡ [] → FaultyStep FaultyContent.Restart world answer after
      → IsRestatedWorld after
  beginning_restates world after answer is none step = search (rules, begun_restates)
