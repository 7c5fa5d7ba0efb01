use Rattle.dgt_link.proofs.laws.grammars.Goals as goal

pub returns : goal.returns
returns c = record {
  reads = record {
    append = c.events_append.ensures;
    unfinished_append = c.unfinished_append.ensures;
    quiet_held = c.quiet_held.ensures;
    encoding = c.encoding_is_read.ensures;
    places = c.places_do_not_matter.ensures;
  };
  begins_anew = c.begins_anew.ensures;
  divisions_append = c.divisions_append.ensures;
  prefixes_divide_first = c.prefixes_divide_first.ensures;
  once = c.one_division.ensures;
  zeros_settle = c.zeros_settle_the_reader.ensures;
  nothing = c.parts_of_words.ensures.nothing;
  left = c.parts_of_words.ensures.left;
  bytes = c.parts_of_words.ensures.bytes;
}
