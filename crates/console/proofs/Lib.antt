mod PassingLaws
